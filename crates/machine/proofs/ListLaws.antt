-- Laws of tests, parts and sums of a list. (`&&` has mathlib's and-eq-true-iff.)
use Prim.Native.Nat.{ℕ, suc, ◌+◌, ◌≤◌}
use mathlib.Core.Path.{◌≡◌, refl, sym, ap, ◌∙◌}
use mathlib.Core.Bool.{Bool, true, false, cond, ◌&&◌, ◌||◌, false≢true}
use mathlib.Core.List.Memᴰ
use mathlib.Core.List.{List, [], ◌∷◌, ◌++◌, Memᴰ}
use mathlib.Core.Logic.{◌↔◌, ◌⊎◌, inl, inr}
use native.Mathlib.Omega.{arith}
use lib.ListN.{length}
use Rattle.machine.specs.Lists.{any, keep, sum, All}

-- a list is empty where nothing is counted
pub none_left : {A : Type 0} (xs : List A) → length xs ≡ 0 → xs ≡ []
none_left [] e = refl
none_left (x ∷ xs) e = absurd (omega (arith, e))

-- ---------------------------------------------------------------- or

pub or_cases : (a b : Bool) → (a || b) ≡ true → (a ≡ true) ⊎ (b ≡ true)
or_cases true b e = inl refl
or_cases false b e = inr e

pub or_left : (a b : Bool) → a ≡ true → (a || b) ≡ true
or_left true b e = refl
or_left false b e = absurd (false≢true e)

pub or_right : (a b : Bool) → b ≡ true → (a || b) ≡ true
or_right true b e = refl
or_right false b e = e

-- ---------------------------------------------------------------- any

pub any_some : {A : Type 0} (p : A → Bool) (xs : List A) → any p xs ≡ true → (x : A) × Memᴰ x xs × (p x ≡ true)
unfolding any
any_some p [] e = absurd (false≢true e)
any_some {A} p (x ∷ xs) e = step (any_some p xs) (or_cases (p x) (any p xs) e)
  where
    step : (any p xs ≡ true → (y : A) × Memᴰ y xs × (p y ≡ true)) → (p x ≡ true) ⊎ (any p xs ≡ true)
        → (y : A) × Memᴰ y (x ∷ xs) × (p y ≡ true)
    step ih (inl h) = (x, Memᴰ.head refl, h)
    step ih (inr h) = let r = ih h in (r.0, Memᴰ.tail r.1, r.2)

pub any_of : {A : Type 0} (p : A → Bool) (xs : List A) (x : A) → Memᴰ x xs → p x ≡ true → any p xs ≡ true
unfolding any
any_of p [] x m e = absurd (Memᴰ.not-nil m)
any_of p (y ∷ ys) x m e = step (λ m'. any_of p ys x m' e) (Memᴰ.cases_cons m)
  where
    step : (Memᴰ x ys → any p ys ≡ true) → (x ≡ y) ⊎ Memᴰ x ys → (p y || any p ys) ≡ true
    step ih (inl h) = or_left (p y) (any p ys) (rw h at e)
    step ih (inr h) = or_right (p y) (any p ys) (ih h)

-- some element passes both tests exactly when some kept element passes the second
pub any_keep : {A : Type 0} (p q : A → Bool) (xs : List A) → any (λ x. p x && q x) xs ≡ any q (keep p xs)
unfolding any keep
any_keep p q [] = refl
any_keep p q (x ∷ xs) = step (any_keep p q xs) (p x)
  where
    step : any (λ y. p y && q y) xs ≡ any q (keep p xs) → (b : Bool)
        → ((b && q x) || any (λ y. p y && q y) xs) ≡ any q (cond b (x ∷ keep p xs) (keep p xs))
    step ih true = ap (λ z. q x || z) ih
    step ih false = ih

-- ---------------------------------------------------------------- All

pub all_map : {A : Type 0} (P Q : A → Type 0) → ((x : A) → P x → Q x) → (xs : List A) → All P xs → All Q xs
all_map P Q f [] a = tt
all_map P Q f (x ∷ xs) a = (f x a.0, all_map P Q f xs a.1)

pub all_append : {A : Type 0} (P : A → Type 0) (xs ys : List A) → All P xs → All P ys → All P (xs ++ ys)
all_append P [] ys a b = b
all_append P (x ∷ xs) ys a b = (a.0, all_append P xs ys a.1 b)

-- what all have, each has
pub all_of : {A : Type 0} (P : A → Type 0) (xs : List A) (x : A) → Memᴰ x xs → All P xs → P x
all_of P [] x m a = absurd (Memᴰ.not-nil m)
all_of P (y ∷ ys) x m a = step (λ n. all_of P ys x n a.1) (Memᴰ.cases_cons m)
  where
    step : (Memᴰ x ys → P x) → (x ≡ y) ⊎ Memᴰ x ys → P x
    step ih (inl e) = rw e a.0
    step ih (inr n) = ih n

-- what each has, all have
pub all_from : {A : Type 0} (P : A → Type 0) (xs : List A) → ((x : A) → Memᴰ x xs → P x) → All P xs
all_from P [] f = tt
all_from P (x ∷ xs) f = (f x (Memᴰ.head refl), all_from P xs (λ y m. f y (Memᴰ.tail m)))

pub not_nil : {A : Type 0} (x : A) (xs : List A) → x ∷ xs ≡ [] → ⊥
not_nil x xs e = let z : ◌≡◌ {A = ℕ} 0 1 = cc in omega arith

-- ---------------------------------------------------------------- keep

module _ {A : Type 0} (p : A → Bool) where
  -- the kept ones are those that pass
  pub keep_holds : (xs : List A) (x : A) → Memᴰ x (keep p xs) ↔ (Memᴰ x xs × (p x ≡ true))
  unfolding keep
  keep_holds [] x = (λ m. absurd (Memᴰ.not-nil m), λ m. m.0)
  keep_holds (y ∷ ys) x = step (keep_holds ys x) (p y) refl
    where
      first : (p y ≡ true) → (x ≡ y) ⊎ Memᴰ x (keep p ys)
          → (Memᴰ x (keep p ys) → Memᴰ x ys × (p x ≡ true)) → Memᴰ x (y ∷ ys) × (p x ≡ true)
      first e (inl q) f = (Memᴰ.head q, rw q e)
      first e (inr m) f = let r = f m in (Memᴰ.tail r.0, r.1)

      kept : (x ≡ y) ⊎ Memᴰ x ys → p x ≡ true → (Memᴰ x ys × (p x ≡ true) → Memᴰ x (keep p ys))
          → Memᴰ x (y ∷ keep p ys)
      kept (inl q) e f = Memᴰ.head q
      kept (inr m) e f = Memᴰ.tail (f (m, e))

      behind : p y ≡ false → (x ≡ y) ⊎ Memᴰ x ys → p x ≡ true → Memᴰ x ys
      behind e (inl q) h = absurd (false≢true (sym e ∙ (rw q at h)))
      behind e (inr m) h = m

      step : (Memᴰ x (keep p ys) ↔ (Memᴰ x ys × (p x ≡ true))) → (b : Bool) → p y ≡ b
          → Memᴰ x (cond b (y ∷ keep p ys) (keep p ys)) ↔ (Memᴰ x (y ∷ ys) × (p x ≡ true))
      step ih true e = (λ m. first e (Memᴰ.cases_cons m) ih.0, λ r. kept (Memᴰ.cases_cons r.0) r.1 ih.1)
      step ih false e = (λ m. let r = ih.0 m in (Memᴰ.tail r.0, r.1), λ r. ih.1 (behind e (Memᴰ.cases_cons r.0) r.1, r.1))

  pub keep_append : (xs ys : List A) → keep p (xs ++ ys) ≡ keep p xs ++ keep p ys
  unfolding keep
  keep_append [] ys = refl
  keep_append (x ∷ xs) ys = step (keep_append xs ys) (p x)
    where
      step : keep p (xs ++ ys) ≡ keep p xs ++ keep p ys → (b : Bool)
          → cond b (x ∷ keep p (xs ++ ys)) (keep p (xs ++ ys)) ≡ cond b (x ∷ keep p xs) (keep p xs) ++ keep p ys
      step ih true = ap (λ z. x ∷ z) ih
      step ih false = ih

  pub keep_none : (xs : List A) → All (λ x. p x ≡ false) xs → keep p xs ≡ []
  unfolding keep
  keep_none [] a = refl
  keep_none (x ∷ xs) a = rw a.0 (keep_none xs a.1)

  pub keep_whole : (xs : List A) → All (λ x. p x ≡ true) xs → keep p xs ≡ xs
  unfolding keep
  keep_whole [] a = refl
  keep_whole (x ∷ xs) a = rw a.0 (ap (λ z. x ∷ z) (keep_whole xs a.1))

  pub keep_length : (xs : List A) → length (keep p xs) ≤ length xs
  unfolding keep
  keep_length [] = omega arith
  keep_length (x ∷ xs) = step (keep_length xs) (p x)
    where
      step : length (keep p xs) ≤ length xs → (b : Bool) → length (cond b (x ∷ keep p xs) (keep p xs)) ≤ suc (length xs)
      step ih true = omega arith
      step ih false = omega arith

pub keep_all : {A : Type 0} (P : A → Type 0) (p : A → Bool) (xs : List A) → All P xs → All P (keep p xs)
unfolding keep
keep_all P p [] a = tt
keep_all P p (x ∷ xs) a = step (keep_all P p xs a.1) (p x)
  where
    step : All P (keep p xs) → (b : Bool) → All P (cond b (x ∷ keep p xs) (keep p xs))
    step ih true = (a.0, ih)
    step ih false = ih

pub keep_sum : {A : Type 0} (f : A → ℕ) (p : A → Bool) (xs : List A) → sum f (keep p xs) ≤ sum f xs
unfolding keep sum
keep_sum f p [] = omega arith
keep_sum f p (x ∷ xs) = step (keep_sum f p xs) (p x)
  where
    step : sum f (keep p xs) ≤ sum f xs → (b : Bool) → sum f (cond b (x ∷ keep p xs) (keep p xs)) ≤ f x + sum f xs
    step ih true = omega arith
    step ih false = omega arith

-- keeping by a weaker test first changes nothing
pub keep_keep : {A : Type 0} (p q : A → Bool) → ((x : A) → p x ≡ true → q x ≡ true) → (xs : List A)
    → keep p (keep q xs) ≡ keep p xs
unfolding keep
keep_keep p q h [] = refl
keep_keep p q h (x ∷ xs) = step (keep_keep p q h xs) (p x) refl (q x) refl
  where
    step : keep p (keep q xs) ≡ keep p xs → (b : Bool) → p x ≡ b → (c : Bool) → q x ≡ c
        → keep p (cond c (x ∷ keep q xs) (keep q xs)) ≡ cond b (x ∷ keep p xs) (keep p xs)
    step ih true e true f = rw e (ap (λ z. x ∷ z) ih)
    step ih false e true f = rw e ih
    step ih false e false f = ih
    step ih true e false f = absurd (false≢true (sym f ∙ h x e))

-- ---------------------------------------------------------------- sum

pub sum_append : {A : Type 0} (f : A → ℕ) (xs ys : List A) → sum f (xs ++ ys) ≡ sum f xs + sum f ys
unfolding sum
sum_append f [] ys = omega arith
sum_append f (x ∷ xs) ys = omega (arith, sum_append f xs ys)

pub sum_one : {A : Type 0} (f : A → ℕ) (xs : List A) (a : A) → sum f (xs ++ (a ∷ [])) ≡ sum f xs + f a
unfolding sum
sum_one f xs a = sum_append f xs (a ∷ []) ∙ omega arith

-- a list's length counts each element once
pub length_sum : {A : Type 0} (xs : List A) → length xs ≡ sum (λ x. 1) xs
unfolding sum
length_sum [] = refl
length_sum (x ∷ xs) = omega (arith, length_sum xs)
