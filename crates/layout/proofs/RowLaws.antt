-- Rows of records: their bytes, their one reading, and how they are cut and joined.
use Prim.Native.Nat.{ℕ, ◌+◌, ◌-◌, ◌≤◌}
use mathlib.Core.Path.{◌≡◌, refl, sym, ap, ap₂, ◌∙◌}
use mathlib.Core.Bool.{Bool, true}
use mathlib.Core.List.{List, [], ◌∷◌, ◌++◌, append_assoc}
use mathlib.Core.Option.{Option, none, some}
use native.Mathlib.Omega.{arith}
use native.Mathlib.Nat.{add-zero}
use lib.ListN.{length, drop, length-append, length-drop}
use lib.Seq.{slice, take-append_seam, drop-drop, drop_at}
use Rattle.codec.specs.Codec.{Codec, write_run, RunOk, fine}
use Rattle.codec.specs.Formats.{run}
use Rattle.moves.proofs.SpliceLaws.{drop_take}
use Rattle.layout.specs.Keys.{any_order}
use Rattle.layout.specs.Rows.{Fills, Row}
use Rattle.layout.proofs.FillLaws.{fills_bytes, fills_of, fills_ok, fills_end, fills_one}

module _ {A : Type 0} (C : Codec A) where
  pub row_inside : (s : List ℕ) (at : ℕ) (xs : List A) (e : ℕ) → Row C s at xs e → (at ≤ e) × (e ≤ length s)
  row_inside s at [] e r = (omega (arith, r.0), r.1)
  row_inside s at (x ∷ xs) e r = let i = row_inside s r.end xs e r.rest in (omega (arith, r.first.from, i.0), i.1)

  pub row_bytes : (s : List ℕ) (at : ℕ) (xs : List A) (e : ℕ) → Row C s at xs e → drop at s ≡ write_run C xs ++ drop e s
  unfolding write_run
  row_bytes s at [] e r = ap (λ (n : ℕ). drop n s) r.0
  row_bytes s at (x ∷ xs) e r = fills_bytes C r.first ∙ rw (row_bytes s r.end xs e r.rest, append_assoc)

  pub row_end : (s : List ℕ) (at : ℕ) (xs : List A) (e : ℕ) → Row C s at xs e → e ≡ at + length (write_run C xs)
  row_end s at xs e r =
      let i = row_inside s at xs e r in
      let l : length s - at ≡ length (write_run C xs) + (length s - e) = sym (length-drop at s) ∙ ap length (row_bytes s at xs e r) ∙ length-append (write_run C xs) (drop e s) ∙ rw (length-drop e s) in
      omega (arith, i.0, i.1)

  pub row_slice : (s : List ℕ) (at : ℕ) (xs : List A) (e : ℕ) → Row C s at xs e → slice at e s ≡ write_run C xs
  row_slice s at xs e r =
      let l : e - at ≡ length (write_run C xs) = omega (arith, row_end s at xs e r) in
      drop_take at e s ∙ rw (row_bytes s at xs e r, l) (take-append_seam (write_run C xs) (drop e s))

  -- so many records from a place on are these alone
  pub row_one : (s : List ℕ) (at : ℕ) (xs ys : List A) (e f : ℕ) → Row C s at xs e → Row C s at ys f → length xs ≡ length ys → (xs ≡ ys) × (e ≡ f)
  row_one s at [] [] e f r q h = (refl, sym r.0 ∙ q.0)
  row_one s at [] (y ∷ ys) e f r q h = absurd (omega (arith, h))
  row_one s at (x ∷ xs) [] e f r q h = absurd (omega (arith, h))
  row_one s at (x ∷ xs) (y ∷ ys) e f r q h =
      let p = fills_one C r.first q.first in
      let t : Row C s r.end ys f = rw p.1 q.rest in
      let i = row_one s r.end xs ys e f r.rest t (omega (arith, h)) in
      (ap₂ (λ (a : A) (l : List A). a ∷ l) p.0 i.0, i.1)

  -- records that are written at a place stand there
  pub row_of : (before : A → A → Bool) (p : Option A) (s : List ℕ) (at : ℕ) (xs : List A) (q : List ℕ) → RunOk C before p xs → at ≤ length s → drop at s ≡ write_run C xs ++ q
      → Row C s at xs (at + length (write_run C xs))
  unfolding write_run
  row_of before p s at [] q o h b = (sym (add-zero at), rw (add-zero at) h)
  row_of before p s at (x ∷ xs) q o h b =
      let b' : drop at s ≡ C.write x ++ (write_run C xs ++ q) = b ∙ append_assoc (C.write x) (write_run C xs) q in
      let one = fills_of C s at x (write_run C xs ++ q) o.1.0 h b' in
      let m : ℕ = at + length (C.write x) in
      let t : drop m s ≡ write_run C xs ++ q = rw (← drop-drop (length (C.write x)) at s, b') (drop_at (C.write x) (write_run C xs ++ q) (length (C.write x)) refl) in
      let l : m + length (write_run C xs) ≡ at + length (C.write x ++ write_run C xs) = rw (length-append (C.write x) (write_run C xs)) (omega arith) in
      record { end = m; first = one; rest = moved m _ _ l (row_of before (some x) s m xs q o.1.1 one.inside t) }
    where
      moved : (m e f : ℕ) → e ≡ f → Row C s m xs e → Row C s m xs f
      moved m e f q' r = rw (← q') r

  -- a run that stands at a place is a row there
  pub run_row : (before : A → A → Bool) (n : ℕ) {s : List ℕ} {at e : ℕ} {xs : List A} → Fills (run C before n) s at xs e → Row C s at xs e × (length xs ≡ n)
  unfolding run
  run_row before n {s} {at} {e} {xs} p =
      let x = (run C before n).read_is (drop at s) xs (drop e s) p.stands.reads in
      let r = row_of before none s at xs (drop e s) x.1.0 (omega (arith, p.from, p.inside)) x.0 in
      let l : at + length (write_run C xs) ≡ e = sym (fills_end (run C before n) p) in
      (rw (← l) r, x.1.1)

  -- a row is cut where one of its records begins
  pub row_join : (s : List ℕ) (at : ℕ) (xs ys : List A) (m e : ℕ) → Row C s at xs m → Row C s m ys e → Row C s at (xs ++ ys) e
  row_join s at [] ys m e r q = rw r.0 q
  row_join s at (x ∷ xs) ys m e r q = record { end = r.end; first = r.first; rest = row_join s r.end xs ys m e r.rest q }

  pub record Cut (s : List ℕ) (at : ℕ) (xs ys : List A) (e : ℕ) : Type 0 where
    pub middle : ℕ
    pub one : Row C s at xs middle
    pub two : Row C s middle ys e

  pub row_cut : (s : List ℕ) (at : ℕ) (xs ys : List A) (e : ℕ) → Row C s at (xs ++ ys) e → Cut s at xs ys e
  row_cut s at [] ys e r = let i = row_inside s at ys e r in record { middle = at; one = (refl, omega (arith, i.0, i.1)); two = r }
  row_cut s at (x ∷ xs) ys e r =
      let c = row_cut s r.end xs ys e r.rest in
      record { middle = c.middle; one = record { end = r.end; first = r.first; rest = c.one }; two = c.two }

pub write_append : {A : Type 0} (C : Codec A) (xs ys : List A) → write_run C (xs ++ ys) ≡ write_run C xs ++ write_run C ys
unfolding write_run
write_append C [] ys = refl
write_append C (x ∷ xs) ys = rw (write_append C xs ys) (sym (append_assoc (C.write x) (write_run C xs) (write_run C ys)))

-- ---- records that may stand in any order

module _ {A : Type 0} (C : Codec A) where
  pub any_fine : (p : Option A) (a : A) → fine C any_order p a ≡ true
  any_fine none a = refl
  any_fine (some b) a = refl

  -- what stands in a row can be written
  pub row_ok : (p : Option A) (s : List ℕ) (at : ℕ) (xs : List A) (e : ℕ) → Row C s at xs e → RunOk C any_order p xs
  row_ok p s at [] e r = tt
  row_ok p s at (x ∷ xs) e r = (any_fine p x, (fills_ok C r.first, row_ok (some x) s r.end xs e r.rest))

  pub ok_append : (p : Option A) (xs ys : List A) → RunOk C any_order p xs → ((q : Option A) → RunOk C any_order q ys) → RunOk C any_order p (xs ++ ys)
  ok_append p [] ys o h = h p
  ok_append p (x ∷ xs) ys o h = (o.0, (o.1.0, ok_append (some x) xs ys o.1.1 h))
