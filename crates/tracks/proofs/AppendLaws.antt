-- A range is put last in the record of a transaction: where the count stands, and what the bytes are.
use Prim.Native.Nat.{ℕ, ◌+◌, ◌≤◌, ◌<◌, ◌^◌}
use mathlib.Core.Path.{◌≡◌, ap, ◌∙◌}
use lib.ListN.{length}
use lib.Seq.{paste}
use Rattle.fields.specs.declared.Span.{Span}
use Rattle.machine.specs.State.{Bytes, Txn}
use Rattle.layout.specs.Offsets.{count_size, writes_at, any_length}
use Rattle.codec.specs.Formats.{number}
use Rattle.codec.specs.Stands.{Stands}
use Rattle.codec.proofs.NumberLaws.{number_below}
use Rattle.moves.specs.Splices.{Spliced}
use Rattle.layout.specs.Keys.{set_form, ranges_form}
use Rattle.layout.specs.Records.{txn_form}
use Rattle.layout.specs.Rows.{Fills, Here, Ends}
use Rattle.layout.proofs.FillLaws.{fills_one, number_read_is}
use Rattle.layout.proofs.OpenLaws.{open_ranges}
use Rattle.places.proofs.EndLaws.{here_of, ranges_fills}
use Rattle.tracks.specs.Ranges.{Appendable, AppendedTo, Appended}

module _ {s bounds : Bytes} {used : ℕ} {txn : Span} (g : Appendable s used txn bounds) where
  pub txn_stands : Here (txn_form any_length) s txn.from
  txn_stands = here_of (txn_form any_length) g.fills

  module _ {m at : ℕ} (x : Ends (set_form any_length) s (txn.from + writes_at) m) (y : Ends (set_form any_length) s m at) where
    its_ranges : Fills (ranges_form any_length) s at g.one.ranges txn.to
    its_ranges = ranges_fills g.fills x y

    pub count_inside : at + count_size ≤ length s
    count_inside = (open_ranges any_length its_ranges).count_at.inside

    module _ {n : ℕ} (q : Stands (number count_size) s at n (at + count_size)) where
      pub few_ranges : n < 256 ^ count_size
      few_ranges = number_below count_size q

      pub appended : {longer s' : Bytes} → Spliced s used txn.to 0 bounds longer → s' ≡ paste longer at ((number count_size).write (n + 1)) count_size → Appended s used txn bounds s'
      appended {longer} {s'} w e = record { is = λ t p. of t (fills_one (txn_form any_length) g.fills p).0 }
        where
          count_is : n ≡ length g.one.ranges
          count_is = number_read_is count_size (open_ranges any_length its_ranges).count_at q

          of : (t : Txn) → g.one ≡ t → AppendedTo s used txn.to bounds s' t
          of t i =
              rw (← i)
              (record {
                at = at;
                ranges = its_ranges;
                longer = longer;
                spliced = w;
                counted = e ∙ ap (λ (k : ℕ). paste longer at ((number count_size).write (k + 1)) count_size) count_is;
              })
