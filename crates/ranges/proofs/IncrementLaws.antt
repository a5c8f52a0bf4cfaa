-- The increment of a prefix, by its last byte and by its first.
use Prim.Native.Nat.{ℕ, suc, ◌+◌, ◌-◌, ◌≤◌, ◌<◌}
use mathlib.Core.Path.{◌≡◌, refl, sym, ap, ◌∙◌}
use mathlib.Core.Bool.{Bool, true, false}
use mathlib.Core.List.{List, [], ◌∷◌, ◌++◌}
use mathlib.Core.Option.{Option, none, some}
use native.Mathlib.Omega.{arith}
use borrow.Author.Tests.{ne_eqb, eqb-true, eqb-false}
use lib.Dec.{eqb}
use lib.ListN.{length, get_or, take, set}
use lib.Seq.{set_split, set-get_or, drop-length, take-take, get_or-take, length-take-le}
use Rattle.std.specs.Prelude.{Option as Maybe, Some, None}
use Rattle.ranges.specs.Prefixes.{increment, raised, Raises}

pub increment_empty : (p : List ℕ) → length p ≡ 0 → increment p ≡ none
unfolding increment
increment_empty [] e = refl
increment_empty (x ∷ p) e = absurd (omega arith)

-- "the increment of a prefix whose last byte is ff is the increment of what stands before it"
pub increment_ff : (p : List ℕ) → increment (p ++ (255 ∷ [])) ≡ increment p
unfolding increment raised
increment_ff [] = refl
increment_ff (x ∷ p) = ap (raised x) (increment_ff p)

pub increment_last : (p : List ℕ) (b : ℕ) → (b ≡ 255 → ⊥) → increment (p ++ (b ∷ [])) ≡ some (p ++ ((b + 1) ∷ []))
unfolding increment raised
increment_last [] b n = rw (ne_eqb b 255 n)
increment_last (x ∷ p) b n = ap (raised x) (increment_last p b n)

-- the same two for the last byte by its place
module _ (p : List ℕ) (h : 0 < length p) where
  last_set : (b : ℕ) → set p (length p - 1) b ≡ take (length p - 1) p ++ (b ∷ [])
  last_set b =
      let e : suc (length p - 1) ≡ length p = omega arith in
      let z = set_split p (length p - 1) b (omega arith) in
      rw (e, drop-length) at z

  last_apart : p ≡ take (length p - 1) p ++ (get_or p (length p - 1) 0 ∷ [])
  last_apart = sym (set-get_or p (length p - 1) 0) ∙ last_set (get_or p (length p - 1) 0)

  pub increment_shorter : get_or p (length p - 1) 0 ≡ 255 → increment p ≡ increment (take (length p - 1) p)
  increment_shorter e = ap increment (rw e at last_apart) ∙ increment_ff (take (length p - 1) p)

  pub increment_here : (get_or p (length p - 1) 0 ≡ 255 → ⊥) → increment p ≡ some (set p (length p - 1) (get_or p (length p - 1) 0 + 1))
  increment_here n =
      let b = get_or p (length p - 1) 0 in
      ap increment last_apart ∙ increment_last (take (length p - 1) p) b n ∙ ap {B = Option (List ℕ)} some (sym (last_set (b + 1)))

-- the length of an increment, as code finds it from the last byte on
pub raises_shorter : (p : List ℕ) (o : Maybe ℕ) → 0 < length p → get_or p (length p - 1) 0 ≡ 255 → Raises (take (length p - 1) p) o → Raises p o
raises_shorter p None h e r = increment_shorter p h e ∙ r
raises_shorter p (Some n) h e r =
    let l = length-take-le (length p - 1) p (omega arith) in
    let w = r.within in
    let g = r.given in
    let m : n ≤ length p - 1 = omega arith in
    record {
      within = omega arith;
      same = ap increment (sym (take-take n (length p - 1) p m)) ∙ r.same ∙ sym (increment_shorter p h e);
      given = r.given;
      raisable = rw (get_or-take (length p - 1) p (n - 1) 0 (omega arith)) at r.raisable;
    }

-- the three ways of an increment by the first byte: a later byte is raised; this one is; there is none
pub data Way (x : ℕ) (p : List ℕ) : Type 0 where
  later : (k : List ℕ) → increment p ≡ some k → increment (x ∷ p) ≡ some (x ∷ k) → Way x p
  here : increment p ≡ none → (x ≡ 255 → ⊥) → increment (x ∷ p) ≡ some ((x + 1) ∷ []) → Way x p
  nowhere : increment p ≡ none → x ≡ 255 → increment (x ∷ p) ≡ none → Way x p

pub way : (x : ℕ) (p : List ℕ) → Way x p
unfolding increment raised
way x p = go (increment p) refl (eqb x 255) refl
  where
    go : (o : Option (List ℕ)) → increment p ≡ o → (b : Bool) → eqb x 255 ≡ b → Way x p
    go (some k) e b t = later k e (rw e)
    go none e true t = nowhere e (eqb-true x 255 t) (rw (e, t))
    go none e false t = here e (eqb-false x 255 t) (rw (e, t))

-- a law holds of every prefix and its increment if it does where the first byte is raised, and one byte more before both keeps it
pub by_increment : (P : List ℕ → List ℕ → Type 0) → ((x : ℕ) (p k : List ℕ) → P p k → P (x ∷ p) (x ∷ k)) → ((x : ℕ) (p : List ℕ) → (x ≡ 255 → ⊥) → P (x ∷ p) ((x + 1) ∷ [])) → (p k : List ℕ) → increment p ≡ some k → P p k
by_increment P before raise [] k e = absurd (let z : ◌≡◌ {A = ℕ} 0 1 = cc (increment_empty [] refl) in omega arith)
by_increment P before raise (x ∷ p) k e = go (by_increment P before raise p) (way x p)
  where
    go : ((l : List ℕ) → increment p ≡ some l → P p l) → Way x p → P (x ∷ p) k
    go ih (later l f g) = let z : k ≡ x ∷ l = cc in rw z (before x p l (ih l f))
    go ih (here f n g) = let z : k ≡ (x + 1) ∷ [] = cc in rw z (raise x p n)
    go ih (nowhere f n g) = absurd (let z : ◌≡◌ {A = ℕ} 0 1 = cc in omega arith)

pub increment_fits : (p k : List ℕ) → increment p ≡ some k → length k ≤ length p
increment_fits = by_increment (λ p k. length k ≤ length p) (λ x p k h. omega arith) (λ x p n. omega arith)
