-- An entry stands where its sequence and its set do, a transaction where its id, its start, its sets and its ranges do; for any key limit.
use Prim.Native.Nat.{ℕ, ◌+◌, ◌-◌, ◌≤◌, ◌<◌}
use mathlib.Core.Path.{◌≡◌, refl, ap, ap₂, ◌∙◌}
use mathlib.Core.Bool.{true}
use mathlib.Core.List.{List}
use native.Mathlib.Omega.{arith}
use borrow.Author.Tests.{le-leb}
use lib.Dec.{leb}
use lib.ListN.{length, take, drop, length-drop}
use lib.Seq.{drop-drop}
use Rattle.machine.specs.State.{Txn}
use Rattle.codec.specs.Codec.{item}
use Rattle.codec.specs.Formats.{number, raw, bind, via}
use Rattle.codec.specs.Stands.{Stands}
use Rattle.codec.proofs.RecordLaws.{too_short}
use Rattle.layout.specs.Offsets.{number_size, id_size, keys_at, start_at, writes_at}
use Rattle.layout.specs.Keys.{set_form, ranges_form}
use Rattle.layout.specs.Records.{entry_form, TxnHead, txn_head_form, head_of, to_txn, txn_form}
use Rattle.layout.proofs.SizeLaws.{txn_length}
use Rattle.layout.proofs.MachineLaws.{id_long}
use Rattle.room.specs.declared.tally.Tally.{Tally}
use Rattle.room.specs.Counts.{a_range, a_set, some_ranges, an_entry, a_txn, plus}
use Rattle.room.specs.Walks.{Got, Missing}
use Rattle.room.specs.Chains.{loose, the_keys, list_of}
use Rattle.room.proofs.KeyLaws.{number_short}
use Rattle.room.proofs.ListLaws.{as_set, as_ranges}

-- ---- entries

module _ (limit : ℕ) (s : List ℕ) (at : ℕ) where
  pub entry_short : length s - at < keys_at → Missing (entry_form limit) s at
  unfolding entry_form via bind
  entry_short h = record { reads = rw (number_short number_size s at h) }

  module _ (n : ℕ) (r : Stands (number number_size) s at n (at + keys_at)) where
    pub entry_cut : Missing (list_of (the_keys limit)).form s (at + keys_at) → Missing (entry_form limit) s at
    unfolding entry_form via bind set_form
    entry_cut m = record { reads = rw (r.reads, m.reads) }

    pub entry_got : {t : Tally} → Got (list_of (the_keys limit)) s (at + keys_at) t → Got (an_entry limit) s at (record { end = t.end; marks = t.marks; bytes = t.bytes; high = n })
    unfolding entry_form via bind
    entry_got {t} k = let g = as_set limit k in record {
      val = record { seq = n; keys = g.val };
      fills = record { stands = record { reads = rw (r.reads, g.fills.stands.reads) }; from = omega (arith, g.fills.from); inside = g.fills.inside };
      marks = g.marks;
      bytes = g.bytes;
      high = refl;
      fits = omega (arith, g.fits);
    }

-- ---- transactions

least_txn : (limit : ℕ) (t : Txn) → (txn_form limit).Ok t → writes_at ≤ length ((txn_form limit).write t)
unfolding txn_form via bind
least_txn limit t o = omega (arith, txn_length limit t (id_long (head_of t) o.0))

module _ (limit : ℕ) (s : List ℕ) (at : ℕ) where
  pub txn_short : length s - at < writes_at → Missing (txn_form limit) s at
  txn_short h = record { reads = too_short (txn_form limit) writes_at (least_txn limit) (drop at s) (rw (length-drop at s) h) }

  module _ (n : ℕ) (h : at + writes_at ≤ length s) (r : Stands (number number_size) s (at + start_at) n (at + start_at + number_size)) where
    id_stands : leb id_size (length (drop at s)) ≡ true
    id_stands = le-leb id_size (length (drop at s)) (rw (length-drop at s) (omega arith))

    start_is : (number number_size).read (drop (at + start_at) s) ≡ item n (drop (at + writes_at) s)
    start_is = let j : at + start_at + number_size ≡ at + writes_at = omega arith in r.reads ∙ ap (λ (x : ℕ). item n (drop x s)) j

    -- the head as it is read
    abbrev top : TxnHead
    top = record { id = take id_size (drop at s); start = n }

    head_is : Stands txn_head_form s at top (at + writes_at)
    unfolding txn_head_form via bind raw
    head_is = record { reads = rw (id_stands, drop-drop id_size at s, start_is) }

    pub no_writes : Missing (list_of (the_keys limit)).form s (at + writes_at) → Missing (txn_form limit) s at
    unfolding txn_form set_form via bind
    no_writes m = record { reads = rw (head_is.reads, m.reads) }

    module _ {w : Tally} (writes : Got (list_of (the_keys limit)) s (at + writes_at) w) where
      a : Got (a_set limit) s (at + writes_at) w
      a = as_set limit writes

      pub no_reads : Missing (list_of (the_keys limit)).form s w.end → Missing (txn_form limit) s at
      unfolding txn_form set_form via bind
      no_reads m = record { reads = rw (head_is.reads, a.fills.stands.reads, m.reads) }

      module _ {u : Tally} (reads : Got (list_of (the_keys limit)) s w.end u) where
        b : Got (a_set limit) s w.end u
        b = as_set limit reads

        pub no_ranges : Missing (list_of (loose (a_range limit))).form s u.end → Missing (txn_form limit) s at
        unfolding txn_form ranges_form via bind
        no_ranges m = record { reads = rw (head_is.reads, a.fills.stands.reads, b.fills.stands.reads, m.reads) }

        module _ {x : Tally} (ranges : Got (list_of (loose (a_range limit))) s u.end x) (sets : Tally) (es : sets ≡ plus w u) where
          c : Got (some_ranges limit) s u.end x
          c = as_ranges limit ranges

          whole : Got (a_txn limit) s at (record { end = x.end; marks = w.marks + u.marks + x.marks; bytes = w.bytes + u.bytes + x.bytes; high = n })
          unfolding txn_form via bind
          whole = record {
            val = to_txn (top, (a.val, (b.val, c.val)));
            fills = record {
              stands = record { reads = rw (head_is.reads, a.fills.stands.reads, b.fills.stands.reads, c.fills.stands.reads) };
              from = omega (arith, a.fills.from, b.fills.from, c.fills.from);
              inside = c.fills.inside;
            };
            marks = ap₂ (λ (i j : ℕ). i + j) (ap₂ (λ (i j : ℕ). i + j) a.marks b.marks) c.marks;
            bytes = ap₂ (λ (i j : ℕ). i + j) (ap₂ (λ (i j : ℕ). i + j) a.bytes b.bytes) c.bytes;
            high = refl;
            fits = omega (arith, a.fits, b.fits, c.fits);
          }

          pub txn_got : (t : Tally) → t ≡ plus sets x → Got (a_txn limit) s at (record { end = t.end; marks = t.marks; bytes = t.bytes; high = n })
          txn_got t et = rw (et, es) whole
