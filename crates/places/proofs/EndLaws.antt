-- Where a record ends by its parts, and going from one record of a row to the next.
use Prim.Native.Nat.{ℕ, ◌+◌}
use mathlib.Core.Path.{◌≡◌, sym, ◌∙◌}
use mathlib.Core.Bool.{Bool}
use mathlib.Core.List.{List}
use native.Mathlib.Omega.{arith}
use Rattle.kinds.specs.Bounds.{Bound}
use Rattle.codec.specs.Codec.{Codec}
use Rattle.codec.specs.Formats.{number}
use Rattle.codec.specs.Stands.{Stands}
use Rattle.machine.specs.State.{Bytes, Txn}
use Rattle.layout.specs.Offsets.{count_size, length_size, tag_size, writes_at, bound_key_at, any_length}
use Rattle.layout.specs.Keys.{key_form, set_form, bound_form, ranges_form}
use Rattle.layout.specs.Records.{txn_form}
use Rattle.layout.specs.Rows.{Fills, Here, Rows, Ends}
use Rattle.layout.proofs.FillLaws.{fills_one, number_read_is}
use Rattle.layout.proofs.OpenLaws.{open_key, open_bound, open_txn, OpenList}
use Rattle.places.specs.Rows.{RowEnds}

pub here_of : {A : Type 0} (C : Codec A) {s : List ℕ} {at e : ℕ} {a : A} → Fills C s at a e → Here C s at
here_of C {e = e} {a = a} p = record { val = a; end = e; fills = p }

-- the end of one reading is the end
pub ends_at : {A : Type 0} (C : Codec A) {s : List ℕ} {at r f : ℕ} {a : A} → Fills C s at a f → r ≡ f → Ends C s at r
ends_at C p q = record { is = λ b e p'. q ∙ (fills_one C p p').1 }

-- a record ends where its last part ends
pub ends_as : {A B : Type 0} (C : Codec A) (D : Codec B) {s : List ℕ} {at last r f : ℕ} {a : A} {b : B} → Fills C s at a f → Fills D s last b f → Ends D s last r → Ends C s at r
ends_as C D {f = f} {b = b} p q x = ends_at C p (x.is b f q)

-- the next part stands where the one before was found to end
pub fills_after : {A B : Type 0} (C : Codec A) (D : Codec B) {s : List ℕ} {at r f e : ℕ} {a : A} {b : B} → Ends C s at r → Fills C s at a f → Fills D s f b e → Fills D s r b e
fills_after C D {f = f} {a = a} x p q = rw (x.is a f p) q

-- the lists of a transaction stand one behind the other
pub writes_here : {s : List ℕ} {at : ℕ} → Here (txn_form any_length) s at → Here (set_form any_length) s (at + writes_at)
writes_here h = here_of (set_form any_length) (open_txn any_length h.fills).writes

pub reads_here : {s : List ℕ} {at r : ℕ} → Here (txn_form any_length) s at → Ends (set_form any_length) s (at + writes_at) r → Here (set_form any_length) s r
reads_here h x = let o = open_txn any_length h.fills in here_of (set_form any_length) (fills_after (set_form any_length) (set_form any_length) x o.writes o.reads)

pub ranges_fills : {s : List ℕ} {at e r q : ℕ} {t : Txn} → Fills (txn_form any_length) s at t e → Ends (set_form any_length) s (at + writes_at) r → Ends (set_form any_length) s r q → Fills (ranges_form any_length) s q t.ranges e
ranges_fills p x y =
    let o = open_txn any_length p in
    fills_after (set_form any_length) (ranges_form any_length) y (fills_after (set_form any_length) (set_form any_length) x o.writes o.reads) o.ranges

pub ranges_here : {s : List ℕ} {at r q : ℕ} → Here (txn_form any_length) s at → Ends (set_form any_length) s (at + writes_at) r → Ends (set_form any_length) s r q → Here (ranges_form any_length) s q
ranges_here h x y = here_of (ranges_form any_length) (ranges_fills h.fills x y)

pub key_end : (m : ℕ) {s : List ℕ} {at n f : ℕ} {k : Bytes} → Fills (key_form m) s at k f → Stands (number length_size) s at n (at + length_size) → at + length_size + n ≡ f
key_end m p w = let o = open_key m p in omega (arith, number_read_is length_size o.length_at w)

pub bound_end : (m : ℕ) {s : List ℕ} {at n f : ℕ} {b : Bound} → Fills (bound_form m) s at b f → Stands (number length_size) s (at + tag_size) n (at + tag_size + length_size) → at + bound_key_at + n ≡ f
bound_end m p w = omega (arith, key_end _ (open_bound m p).key w)

-- a list ends where its records end, which stand behind its count
module _ {A : Type 0} (C : Codec A) (before : A → A → Bool) where
  pub list_rows : {s : List ℕ} {at e n : ℕ} {xs : List A} → OpenList C before s at xs e → Stands (number count_size) s at n (at + count_size) → Rows C s (at + count_size) n
  list_rows {e = e} {xs = xs} o w = record { vals = xs; end = e; row = o.row; count = sym (number_read_is count_size o.count_at w) }

  pub list_ends : {B : Type 0} (D : Codec B) {s : List ℕ} {at e n r : ℕ} {xs : List A} {b : B} → Fills D s at b e → OpenList C before s at xs e → Stands (number count_size) s at n (at + count_size)
      → RowEnds C s (at + count_size) n r → Ends D s at r
  list_ends D {e = e} {xs = xs} p o w x = ends_at D p (x.is xs e o.row (sym (number_read_is count_size o.count_at w)))
