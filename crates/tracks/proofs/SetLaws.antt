-- Where the set of a transaction that a track goes to stands in the record, and the bytes around it.
use Prim.Native.Nat.{ℕ, ◌+◌, ◌≤◌}
use mathlib.Core.Path.{◌≡◌, ◌∙◌}
use mathlib.Core.List.{List, ◌++◌, append_assoc}
use native.Mathlib.Omega.{arith}
use lib.ListN.{length, length-append}
use Rattle.machine.specs.declared.Which.{Which}
use Rattle.machine.specs.declared.Which.TheVariants.{Writes, Reads}
use Rattle.machine.specs.State.{Bytes, Txn, set_of}
use Rattle.machine.specs.Sets.{insert_all}
use Rattle.machine.specs.Serve.{add_keys}
use Rattle.layout.specs.Offsets.{id_size, writes_at, any_length}
use Rattle.layout.specs.Keys.{set_form, ranges_form}
use Rattle.layout.specs.Records.{txn_head_form, head_of, txn_form}
use Rattle.layout.specs.Rows.{Fills, Ends}
use Rattle.layout.proofs.FillLaws.{fills_end}
use Rattle.layout.proofs.OpenLaws.{OpenTxn, open_txn}
use Rattle.layout.proofs.SizeLaws.{txn_head_length, txn_bytes_lem}
use Rattle.tracks.specs.Tracks.{before_set, SetAt}

-- ---- where it stands

front_length : (t : Txn) → length t.id ≡ id_size → length (before_set Reads t) ≡ writes_at + length ((set_form any_length).write t.writes)
front_length t e = length-append (txn_head_form.write (head_of t)) ((set_form any_length).write t.writes) ∙ rw (txn_head_length (head_of t) e)

pub writes_at_lem : (s : Bytes) (txn : ℕ) → SetAt s txn Writes (txn + writes_at)
writes_at_lem s txn = record { is = λ t e p. omega (arith, txn_head_length (head_of t) (open_txn any_length p).head.id_length) }

pub reads_at : {s : Bytes} {txn r : ℕ} → Ends (set_form any_length) s (txn + writes_at) r → SetAt s txn Reads r
reads_at {s} {txn} {r} x = record { is = λ t e p. after t (open_txn any_length p) }
  where
    after : (t : Txn) {e : ℕ} → OpenTxn any_length s txn t e → r ≡ txn + length (before_set Reads t)
    after t o = omega (arith, x.is t.writes o.writes_end o.writes, fills_end (set_form any_length) o.writes, front_length t o.head.id_length)

pub record SetIn (s : Bytes) (w : Which) (t : Txn) (at e : ℕ) : Type 0 where
  pub end : ℕ
  pub fills : Fills (set_form any_length) s at (set_of w t) end
  pub within : end ≤ e

pub set_in : {s : Bytes} {txn at : ℕ} (w : Which) (t : Txn) {e : ℕ} → Fills (txn_form any_length) s txn t e → SetAt s txn w at → SetIn s w t at e
set_in {s} {txn} {at} Writes t {e} p a =
    let o = open_txn any_length p in
    let q : at ≡ txn + writes_at = omega (arith, a.is t e p, txn_head_length (head_of t) o.head.id_length) in
    record { end = o.writes_end; fills = rw q o.writes; within = omega (arith, o.reads.from, o.ranges.from) }
set_in {s} {txn} {at} Reads t {e} p a =
    let o = open_txn any_length p in
    let q : at ≡ o.writes_end = omega (arith, a.is t e p, front_length t o.head.id_length, fills_end (set_form any_length) o.writes) in
    record { end = o.reads_end; fills = rw q o.reads; within = o.ranges.from }

-- ---- the bytes around it

abbrev pub after_set : Which → Txn → Bytes
after_set Writes t = (set_form any_length).write t.reads ++ (ranges_form any_length).write t.ranges
after_set Reads t = (ranges_form any_length).write t.ranges

pub set_split : (w : Which) (t : Txn) → (txn_form any_length).write t ≡ before_set w t ++ ((set_form any_length).write (set_of w t) ++ after_set w t)
set_split Writes t = txn_bytes_lem any_length t
set_split Reads t = txn_bytes_lem any_length t ∙ simp append_assoc

pub set_split_new : (w : Which) (ks : List Bytes) (t : Txn) → (txn_form any_length).write (add_keys w ks t) ≡ before_set w t ++ ((set_form any_length).write (insert_all ks (set_of w t)) ++ after_set w t)
set_split_new Writes ks t = set_split Writes (add_keys Writes ks t)
set_split_new Reads ks t = set_split Reads (add_keys Reads ks t)
