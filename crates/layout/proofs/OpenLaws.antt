-- The parts of each kind of record at a place.
use Prim.Native.Nat.{ℕ, ◌+◌, ◌≤◌}
use mathlib.Core.Path.{◌≡◌, refl}
use mathlib.Core.Bool.{Bool, true}
use mathlib.Core.List.{List}
use native.Mathlib.Omega.{arith}
use borrow.Author.Tests.{leb-true}
use lib.Dec.{leb}
use lib.ListN.{length}
use lib.Seq.{slice}
use Rattle.kinds.specs.Bounds.{Bound}
use Rattle.bounds.specs.Ranges.{Range, not_empty, range}
use Rattle.ranges.specs.Made.{key_of, kind_of}
use Rattle.fields.specs.Forms.{bound_tag}
use Rattle.machine.specs.State.{Bytes, Txn, Entry}
use Rattle.codec.specs.Codec.{Codec}
use Rattle.codec.specs.Formats.{number, raw, bind, only, run}
use Rattle.layout.specs.Offsets.{number_size, count_size, length_size, tag_size, id_size, keys_at, start_at, writes_at}
use Rattle.layout.specs.Keys.{key_raw, key_same, key_form, list_raw, list_same, list_form, set_form, below, any_order, is_tag, tag_limit, tagged, bound_as, bound_raw, bound_back, bound_same, bound_form, range_raw, pair_form, range_form, ranges_form}
use Rattle.layout.specs.Records.{entry_form, TxnHead, txn_head_raw, to_txn_head, of_txn_head, txn_head_form, head_of, sets_raw, txn_raw, to_txn, of_txn, txn_form}
use Rattle.layout.specs.Rows.{Fills, Row}
use Rattle.layout.proofs.FillLaws.{fills_ok, both, through, tested, number_end, raw_slice}
use Rattle.layout.proofs.RowLaws.{run_row}

pub record OpenKey (m : ℕ) (s : List ℕ) (at : ℕ) (k : Bytes) (e : ℕ) : Type 0 where
  pub length_at : Fills (number length_size) s at (length k) (at + length_size)
  pub short : length k ≤ m
  pub ends : e ≡ at + length_size + length k
  pub inside : e ≤ length s
  pub bytes : slice (at + length_size) e s ≡ k

pub open_key : (m : ℕ) {s : List ℕ} {at e : ℕ} {k : Bytes} → Fills (key_form m) s at k e → OpenKey m s at k e
unfolding key_form
open_key m {s} {at} {e} {k} p =
    let q = both (only (number length_size) (λ n. leb n m)) raw (through (key_raw m) (λ x. x.1) (λ k. (length k, k)) (λ b. refl) (key_same m) p) in
    let t = tested (number length_size) (λ n. leb n m) q.one in
    let a : q.middle ≡ at + length_size = number_end length_size t.0 in
    let r = raw_slice (length k) q.two in
    record {
      length_at = rw a at t.0;
      short = leb-true _ _ t.1;
      ends = omega (arith, r.0, a);
      inside = p.inside;
      bytes = rw a at r.1;
    }

module _ {A : Type 0} (C : Codec A) (before : A → A → Bool) where
  pub record OpenList (s : List ℕ) (at : ℕ) (xs : List A) (e : ℕ) : Type 0 where
    pub count_at : Fills (number count_size) s at (length xs) (at + count_size)
    pub row : Row C s (at + count_size) xs e

  pub open_list : {s : List ℕ} {at e : ℕ} {xs : List A} → Fills (list_form C before) s at xs e → OpenList s at xs e
  unfolding list_form
  open_list {s} {at} {e} {xs} p =
      let q = both (number count_size) (run C before) (through (list_raw C before) (λ x. x.1) (λ xs. (length xs, xs)) (λ b. refl) (list_same C before) p) in
      let a : q.middle ≡ at + count_size = number_end count_size q.one in
      let r = run_row C before (length xs) q.two in
      record { count_at = rw a at q.one; row = rw a at r.0 }

pub open_set : (m : ℕ) {s : List ℕ} {at e : ℕ} {ks : List Bytes} → Fills (set_form m) s at ks e → OpenList (key_form m) below s at ks e
unfolding set_form
open_set m p = open_list (key_form m) below p

pub open_ranges : (m : ℕ) {s : List ℕ} {at e : ℕ} {rs : List Range} → Fills (ranges_form m) s at rs e → OpenList (range_form m) any_order s at rs e
unfolding ranges_form
open_ranges m p = open_list (range_form m) any_order p

pub record OpenBound (m : ℕ) (s : List ℕ) (at : ℕ) (b : Bound) (e : ℕ) : Type 0 where
  pub tag_at : Fills (number tag_size) s at (bound_tag (kind_of b)) (at + tag_size)
  pub key : Fills (key_form (tag_limit m (bound_tag (kind_of b)))) s (at + tag_size) (key_of b) e

pub open_bound : (m : ℕ) {s : List ℕ} {at e : ℕ} {b : Bound} → Fills (bound_form m) s at b e → OpenBound m s at b e
unfolding bound_form
open_bound m {s} {at} {e} {b} p =
    let q = both (only (number tag_size) is_tag) (λ t. key_form (tag_limit m t)) (through (bound_raw m) (λ p. bound_as p.0 p.1) tagged bound_back (bound_same m) p) in
    let t = tested (number tag_size) is_tag q.one in
    let a : q.middle ≡ at + tag_size = number_end tag_size t.0 in
    record { tag_at = rw a at t.0; key = rw a at q.two }

pub record OpenRange (m : ℕ) (s : List ℕ) (at : ℕ) (r : Range) (e : ℕ) : Type 0 where
  pub middle : ℕ
  pub start : Fills (bound_form m) s at r.start middle
  pub end : Fills (bound_form m) s middle r.end e
  pub not_empty_lem : not_empty r ≡ true

pub open_range : (m : ℕ) {s : List ℕ} {at e : ℕ} {r : Range} → Fills (range_form m) s at r e → OpenRange m s at r e
unfolding range_form pair_form
open_range m {s} {at} {e} {r} p =
    let t = tested (pair_form m) not_empty p in
    let q = both (bound_form m) (λ s. bound_form m) (through (range_raw m) (λ p. range p.0 p.1) (λ r. (r.start, r.end)) (λ b. refl) (λ a o. refl) t.0) in
    record { middle = q.middle; start = q.one; end = q.two; not_empty_lem = t.1 }

pub record OpenEntry (m : ℕ) (s : List ℕ) (at : ℕ) (x : Entry) (e : ℕ) : Type 0 where
  pub seq_at : Fills (number number_size) s at x.seq (at + keys_at)
  pub set : Fills (set_form m) s (at + keys_at) x.keys e

pub open_entry : (m : ℕ) {s : List ℕ} {at e : ℕ} {x : Entry} → Fills (entry_form m) s at x e → OpenEntry m s at x e
unfolding entry_form
open_entry m {s} {at} {e} {x} p =
    let q = both (number number_size) (λ n. set_form m) (through (bind (number number_size) (λ n. set_form m)) (λ p. record { seq = p.0; keys = p.1 }) (λ e. (e.seq, e.keys)) (λ b. refl) (λ a o. refl) p) in
    let a : q.middle ≡ at + keys_at = number_end number_size q.one in
    record { seq_at = rw a at q.one; set = rw a at q.two }

pub record OpenHead (s : List ℕ) (at : ℕ) (h : TxnHead) (e : ℕ) : Type 0 where
  pub id_at_lem : slice at (at + id_size) s ≡ h.id
  pub id_length : length h.id ≡ id_size
  pub start_at_lem : Fills (number number_size) s (at + start_at) h.start (at + start_at + number_size)
  pub ends : e ≡ at + writes_at

open_head : {s : List ℕ} {at e : ℕ} {h : TxnHead} → Fills txn_head_form s at h e → OpenHead s at h e
unfolding txn_head_form raw
open_head {s} {at} {e} {h} p =
    let q = both (raw id_size) (λ i. number number_size) (through txn_head_raw to_txn_head of_txn_head (λ b. refl) (λ a o. refl) p) in
    let j = raw_slice id_size q.one in
    let a : q.middle ≡ at + start_at = j.0 in
    let n : Fills (number number_size) s (at + start_at) h.start e = rw a at q.two in
    let b : e ≡ at + start_at + number_size = number_end number_size n in
    record { id_at_lem = rw a at j.1; id_length = fills_ok (raw id_size) q.one; start_at_lem = rw b at n; ends = omega (arith, b) }

pub record OpenTxn (m : ℕ) (s : List ℕ) (at : ℕ) (t : Txn) (e : ℕ) : Type 0 where
  pub head : OpenHead s at (head_of t) (at + writes_at)
  pub writes_end : ℕ
  pub reads_end : ℕ
  pub writes : Fills (set_form m) s (at + writes_at) t.writes writes_end
  pub reads : Fills (set_form m) s writes_end t.reads reads_end
  pub ranges : Fills (ranges_form m) s reads_end t.ranges e

pub open_txn : (m : ℕ) {s : List ℕ} {at e : ℕ} {t : Txn} → Fills (txn_form m) s at t e → OpenTxn m s at t e
unfolding txn_form
open_txn m {s} {at} {e} {t} p =
    let q = both txn_head_form (λ h. sets_raw m) (through (txn_raw m) to_txn of_txn (λ b. refl) (λ a o. refl) p) in
    let h = open_head q.one in
    let a : q.middle ≡ at + writes_at = h.ends in
    let rest : Fills (sets_raw m) s (at + writes_at) (t.writes, (t.reads, t.ranges)) e = rw a at q.two in
    let w = both (set_form m) (λ w. bind (set_form m) (λ r. ranges_form m)) rest in
    let r = both (set_form m) (λ r. ranges_form m) w.two in
    record { head = rw a at h; writes_end = w.middle; reads_end = r.middle; writes = w.one; reads = r.one; ranges = r.two }

-- the sets stand within the room
pub sets_inside : (m : ℕ) {s : List ℕ} {at e : ℕ} {t : Txn} → Fills (txn_form m) s at t e → at + writes_at ≤ length s
sets_inside m p = let o = open_txn m p in omega (arith, o.writes.from, o.writes.inside)
