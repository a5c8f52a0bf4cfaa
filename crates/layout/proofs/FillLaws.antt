-- What a record at a place is, for any format: its bytes, its one value, and the parts that it is made of.
use Prim.Native.Nat.{ℕ, ◌+◌, ◌-◌, ◌≤◌}
use mathlib.Core.Path.{◌≡◌, refl, sym, ap, ◌∙◌}
use mathlib.Core.Bool.{Bool, true}
use mathlib.Core.List.{List, ◌++◌, append_assoc}
use native.Mathlib.Omega.{arith}
use lib.ListN.{length, drop, length-append, length-drop}
use lib.Seq.{slice, take-append_seam, drop-drop, drop_at}
use Rattle.codec.specs.Codec.{item, Codec}
use Rattle.codec.specs.Formats.{number, raw, bind, only, via}
use Rattle.codec.specs.Stands.{Stands}
use Rattle.codec.proofs.RecordLaws.{stands_one, stands_length}
use Rattle.codec.proofs.NumberLaws.{length_number}
use Rattle.moves.proofs.SpliceLaws.{drop_take}
use Rattle.layout.specs.Rows.{Fills}

module _ {A : Type 0} (C : Codec A) where
  pub fills_bytes : {s : List ℕ} {at e : ℕ} {a : A} → Fills C s at a e → drop at s ≡ C.write a ++ drop e s
  fills_bytes {s} {at} {e} {a} p = (C.read_is (drop at s) a (drop e s) p.stands.reads).0

  pub fills_ok : {s : List ℕ} {at e : ℕ} {a : A} → Fills C s at a e → C.Ok a
  fills_ok {s} {at} {e} {a} p = (C.read_is (drop at s) a (drop e s) p.stands.reads).1

  pub fills_end : {s : List ℕ} {at e : ℕ} {a : A} → Fills C s at a e → e ≡ at + length (C.write a)
  fills_end {s} {at} {e} {a} p = stands_length C p.stands (omega (arith, p.from, p.inside)) p.inside

  -- the bytes of a record, where it stands
  pub fills_slice : {s : List ℕ} {at e : ℕ} {a : A} → Fills C s at a e → slice at e s ≡ C.write a
  fills_slice {s} {at} {e} {a} p =
      let l : e - at ≡ length (C.write a) = omega (arith, fills_end p) in
      drop_take at e s ∙ rw (fills_bytes p, l) (take-append_seam (C.write a) (drop e s))

  -- a record that is written at a place stands there
  pub fills_of : (s : List ℕ) (at : ℕ) (a : A) (q : List ℕ) → C.Ok a → at ≤ length s → drop at s ≡ C.write a ++ q → Fills C s at a (at + length (C.write a))
  fills_of s at a q o h e =
      let x : drop (at + length (C.write a)) s ≡ q = rw (← drop-drop (length (C.write a)) at s, e) (drop_at (C.write a) q (length (C.write a)) refl) in
      let l : length s - at ≡ length (C.write a) + length q = sym (length-drop at s) ∙ ap length e ∙ length-append (C.write a) q in
      record {
        stands = record { reads = rw (e, x) (C.write_is a q o) };
        from = omega arith;
        inside = omega arith;
      }

  -- one value and one end
  pub fills_one : {s : List ℕ} {at e f : ℕ} {a b : A} → Fills C s at a e → Fills C s at b f → (a ≡ b) × (e ≡ f)
  fills_one {s} {at} {e} {f} {a} {b} p q =
      let g : item a (drop e s) ≡ item b (drop f s) = sym p.stands.reads ∙ q.stands.reads in
      let h : drop e s ≡ drop f s = cc g in
      let l : length s - e ≡ length s - f = sym (length-drop e s) ∙ ap length h ∙ length-drop f s in
      (cc g, omega (arith, p.inside, q.inside))

pub record Both {A B : Type 0} (C : Codec A) (D : A → Codec B) (s : List ℕ) (at : ℕ) (p : A × B) (e : ℕ) : Type 0 where
  pub middle : ℕ
  pub one : Fills C s at p.0 middle
  pub two : Fills (D p.0) s middle p.1 e

pub both : {A B : Type 0} (C : Codec A) (D : A → Codec B) {s : List ℕ} {at e : ℕ} {p : A × B} → Fills (bind C D) s at p e → Both C D s at p e
unfolding bind
both C D {s} {at} {e} {p} w =
    let o = fills_ok (bind C D) w in
    let b : drop at s ≡ C.write p.0 ++ ((D p.0).write p.1 ++ drop e s) = fills_bytes (bind C D) w ∙ append_assoc (C.write p.0) ((D p.0).write p.1) (drop e s) in
    let h : at ≤ length s = omega (arith, w.from, w.inside) in
    let one = fills_of C s at p.0 ((D p.0).write p.1 ++ drop e s) o.0 h b in
    let m : ℕ = at + length (C.write p.0) in
    let t : drop m s ≡ (D p.0).write p.1 ++ drop e s = rw (← drop-drop (length (C.write p.0)) at s, b) (drop_at (C.write p.0) ((D p.0).write p.1 ++ drop e s) (length (C.write p.0)) refl) in
    let two = fills_of (D p.0) s m p.1 (drop e s) o.1 one.inside t in
    let l : m + length ((D p.0).write p.1) ≡ e = omega (arith, fills_end (bind C D) w, length-append (C.write p.0) ((D p.0).write p.1)) in
    record { middle = m; one = one; two = ap_end l two }
  where
    ap_end : {s : List ℕ} {at e f : ℕ} → e ≡ f → Fills (D p.0) s at p.1 e → Fills (D p.0) s at p.1 f
    ap_end q x = rw (← q) x

pub through : {A B : Type 0} (C : Codec A) (to : A → B) (from : B → A) (back : (b : B) → to (from b) ≡ b) (same : (a : A) → C.Ok a → from (to a) ≡ a) {s : List ℕ} {at e : ℕ} {b : B}
    → Fills (via C to from back same) s at b e → Fills C s at (from b) e
unfolding via
through C to from back same {s} {at} {e} {b} w =
    let x = via C to from back same in
    record { stands = record { reads = rw (fills_bytes x w) (C.write_is (from b) (drop e s) (fills_ok x w)) }; from = w.from; inside = w.inside }

pub tested : {A : Type 0} (C : Codec A) (test : A → Bool) {s : List ℕ} {at e : ℕ} {a : A} → Fills (only C test) s at a e → Fills C s at a e × (test a ≡ true)
unfolding only
tested C test {s} {at} {e} {a} w =
    let x = only C test in
    (record { stands = record { reads = rw (fills_bytes x w) (C.write_is a (drop e s) (fills_ok x w).0) }; from = w.from; inside = w.inside }, (fills_ok x w).1)

pub number_end : (k : ℕ) {s : List ℕ} {at e n : ℕ} → Fills (number k) s at n e → e ≡ at + k
number_end k {s} {at} {e} {n} p = fills_end (number k) p ∙ rw (length_number k n)

-- the number that is read at a place is the one that stands there
pub number_read_is : (k : ℕ) {s : List ℕ} {at e n r f : ℕ} → Fills (number k) s at n e → Stands (number k) s at r f → r ≡ n
number_read_is k p q = stands_one (number k) q p.stands

pub raw_slice : (k : ℕ) {s : List ℕ} {at e : ℕ} {a : List ℕ} → Fills (raw k) s at a e → (e ≡ at + k) × (slice at e s ≡ a)
unfolding raw
raw_slice k {s} {at} {e} {a} p = (fills_end (raw k) p ∙ rw (fills_ok (raw k) p), fills_slice (raw k) p)
