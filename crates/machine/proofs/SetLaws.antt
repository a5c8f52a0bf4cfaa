-- Laws of sets of keys: what a set holds after keys are added, and that it still ascends.
use Prim.Native.Nat.{suc, ◌+◌, ◌≤◌}
use mathlib.Core.Path.{◌≡◌, refl, ap, ◌∙◌}
use mathlib.Core.Bool.{true, false≢true}
use mathlib.Core.List.Memᴰ
use mathlib.Core.List.{List, [], ◌∷◌, Memᴰ}
use mathlib.Core.Logic.{◌↔◌, ◌⊎◌, inl, inr}
use mathlib.Core.Ordering.{Ordering, lt, eq, gt, swap}
use native.Mathlib.Omega.{arith}
use lib.ListN.{length}
use Rattle.keys.specs.Order.{order, is_same}
use Rattle.keys.proofs.OrderLaws.{order_refl, order_eq, order_swap, order_trans}
use Rattle.machine.specs.Lists.{sum, All}
use Rattle.machine.specs.State.{Bytes, Above, Ascends, set_bytes}
use Rattle.machine.specs.Sets.{equal, stands, insert, insert_all}
use Rattle.machine.proofs.ListLaws.{all_map, all_of}

-- ---------------------------------------------------------------- one key against another

pub equal_refl : (a : Bytes) → equal a a ≡ true
equal_refl a = ap is_same (order_refl a)

pub equal_eq : (a b : Bytes) → equal a b ≡ true → a ≡ b
equal_eq a b e = step (order a b) refl e
  where
    step : (o : Ordering) → order a b ≡ o → is_same o ≡ true → a ≡ b
    step lt f q = absurd (false≢true q)
    step eq f q = order_eq a b f
    step gt f q = absurd (false≢true q)

more_less : (a b : Bytes) → order a b ≡ gt → order b a ≡ lt
unfolding swap
more_less a b e = order_swap a b ∙ ap swap e

pub less_more : (a b : Bytes) → order a b ≡ lt → order b a ≡ gt
unfolding swap
less_more a b e = order_swap a b ∙ ap swap e

pub above_trans : (p x : Bytes) (ks : List Bytes) → order p x ≡ lt → Above x ks → Above p ks
above_trans p x [] e a = tt
above_trans p x (k ∷ ks) e a = (order_trans p x k e a.0, a.1)

-- what stands above p is after p
above_after : (p : Bytes) (ks : List Bytes) → Above p ks → All (λ k. order p k ≡ lt) ks
above_after p [] a = tt
above_after p (k ∷ ks) a = (a.0, all_map _ _ (λ x. order_trans p k x a.0) ks (above_after k ks a.1))

pub above_ascends : (p : Bytes) (ks : List Bytes) → Above p ks → Ascends ks
above_ascends p [] a = tt
above_ascends p (k ∷ ks) a = a.1

-- ---------------------------------------------------------------- sets of keys

insert_above : (p k : Bytes) (ks : List Bytes) → order p k ≡ lt → Above p ks → Above p (insert k ks)
unfolding insert
insert_above p k [] e a = (e, tt)
insert_above p k (x ∷ xs) e a = step (insert_above x k xs) (order k x) refl
  where
    step : (order x k ≡ lt → Above x xs → Above x (insert k xs)) → (o : Ordering) → order k x ≡ o
        → Above p (stands o (k ∷ x ∷ xs) (x ∷ xs) (x ∷ insert k xs))
    step ih lt f = (e, (f, a.1))
    step ih eq f = a
    step ih gt f = (a.0, ih (more_less k x f) a.1)

pub insert_ascends : (k : Bytes) (ks : List Bytes) → Ascends ks → Ascends (insert k ks)
unfolding insert
insert_ascends k [] a = tt
insert_ascends k (x ∷ xs) a = step (order k x) refl
  where
    step : (o : Ordering) → order k x ≡ o → Ascends (stands o (k ∷ x ∷ xs) (x ∷ xs) (x ∷ insert k xs))
    step lt f = (f, a)
    step eq f = a
    step gt f = insert_above x k xs (more_less k x f) a

insert_all_lem : (P : Bytes → Type 0) (k : Bytes) (ks : List Bytes) → P k → All P ks → All P (insert k ks)
unfolding insert
insert_all_lem P k [] p a = (p, tt)
insert_all_lem P k (x ∷ xs) p a = step (insert_all_lem P k xs p a.1) (order k x)
  where
    step : All P (insert k xs) → (o : Ordering) → All P (stands o (k ∷ x ∷ xs) (x ∷ xs) (x ∷ insert k xs))
    step ih lt = (p, a)
    step ih eq = a
    step ih gt = (a.0, ih)

pub insert_holds : (k x : Bytes) (ks : List Bytes) → Memᴰ k (insert x ks) ↔ ((k ≡ x) ⊎ Memᴰ k ks)
unfolding insert
insert_holds k x [] = (Memᴰ.cases_cons, into)
  where
    into : (k ≡ x) ⊎ Memᴰ k [] → Memᴰ k (x ∷ [])
    into (inl q) = Memᴰ.head q
    into (inr m) = Memᴰ.tail m
insert_holds k x (y ∷ ys) = step (insert_holds k x ys) (order x y) refl
  where
    Held : Type 0
    Held = (k ≡ x) ⊎ Memᴰ k (y ∷ ys)

    in_front : Held → Memᴰ k (x ∷ y ∷ ys)
    in_front (inl q) = Memᴰ.head q
    in_front (inr m) = Memᴰ.tail m

    there : x ≡ y → Held → Memᴰ k (y ∷ ys)
    there e (inl q) = Memᴰ.head (q ∙ e)
    there e (inr m) = m

    out : (Memᴰ k (insert x ys) → (k ≡ x) ⊎ Memᴰ k ys) → (k ≡ y) ⊎ Memᴰ k (insert x ys) → Held
    out ih (inl q) = inr (Memᴰ.head q)
    out ih (inr m) = later (ih m)
      where
        later : (k ≡ x) ⊎ Memᴰ k ys → Held
        later (inl q) = inl q
        later (inr n) = inr (Memᴰ.tail n)

    behind : ((k ≡ x) ⊎ Memᴰ k ys → Memᴰ k (insert x ys)) → Held → Memᴰ k (y ∷ insert x ys)
    behind ih (inl q) = Memᴰ.tail (ih (inl q))
    behind ih (inr m) = at (Memᴰ.cases_cons m)
      where
        at : (k ≡ y) ⊎ Memᴰ k ys → Memᴰ k (y ∷ insert x ys)
        at (inl q) = Memᴰ.head q
        at (inr n) = Memᴰ.tail (ih (inr n))

    step : (Memᴰ k (insert x ys) ↔ ((k ≡ x) ⊎ Memᴰ k ys)) → (o : Ordering) → order x y ≡ o
        → Memᴰ k (stands o (x ∷ y ∷ ys) (y ∷ ys) (y ∷ insert x ys)) ↔ Held
    step ih lt e = (Memᴰ.cases_cons, in_front)
    step ih eq e = (inr, there (order_eq x y e))
    step ih gt e = (λ m. out ih.0 (Memᴰ.cases_cons m), behind ih.1)

-- "A key already in that set costs nothing"
pub insert_known : (k : Bytes) (ks : List Bytes) → Memᴰ k ks → Ascends ks → insert k ks ≡ ks
unfolding insert
insert_known k [] m a = absurd (Memᴰ.not-nil m)
insert_known k (x ∷ xs) m a = step (λ n. insert_known k xs n (above_ascends x xs a)) (Memᴰ.cases_cons m)
  where
    step : (Memᴰ k xs → insert k xs ≡ xs) → (k ≡ x) ⊎ Memᴰ k xs
        → stands (order k x) (k ∷ x ∷ xs) (x ∷ xs) (x ∷ insert k xs) ≡ x ∷ xs
    step ih (inl q) = rw (q, order_refl x)
    step ih (inr n) = rw (less_more x k (all_of _ xs k n (above_after x xs a))) (ap (λ z. x ∷ z) (ih n))

-- "twice in one list counts once"
pub insert_twice : (k : Bytes) (ks : List Bytes) → Ascends ks → insert k (insert k ks) ≡ insert k ks
insert_twice k ks a = insert_known k (insert k ks) ((insert_holds k k ks).1 (inl refl)) (insert_ascends k ks a)

insert_longer : (k : Bytes) (ks : List Bytes) → length ks ≤ length (insert k ks)
unfolding insert
insert_longer k [] = omega arith
insert_longer k (x ∷ xs) = step (insert_longer k xs) (order k x)
  where
    step : length xs ≤ length (insert k xs) → (o : Ordering)
        → suc (length xs) ≤ length (stands o (k ∷ x ∷ xs) (x ∷ xs) (x ∷ insert k xs))
    step ih lt = omega arith
    step ih eq = omega arith
    step ih gt = omega arith

-- ---------------------------------------------------------------- a list of keys

pub insert_all_ascends : (xs ks : List Bytes) → Ascends ks → Ascends (insert_all xs ks)
unfolding insert_all
insert_all_ascends [] ks a = a
insert_all_ascends (x ∷ xs) ks a = insert_all_ascends xs (insert x ks) (insert_ascends x ks a)

pub insert_all_all : (P : Bytes → Type 0) (xs ks : List Bytes) → All P xs → All P ks → All P (insert_all xs ks)
unfolding insert_all
insert_all_all P [] ks p a = a
insert_all_all P (x ∷ xs) ks p a = insert_all_all P xs (insert x ks) p.1 (insert_all_lem P x ks p.0 a)

pub insert_all_holds : (k : Bytes) (xs ks : List Bytes) → Memᴰ k (insert_all xs ks) ↔ (Memᴰ k xs ⊎ Memᴰ k ks)
unfolding insert_all
insert_all_holds k [] ks = (inr, into)
  where
    into : Memᴰ k [] ⊎ Memᴰ k ks → Memᴰ k ks
    into (inl m) = absurd (Memᴰ.not-nil m)
    into (inr m) = m
insert_all_holds k (x ∷ xs) ks = step (insert_all_holds k xs (insert x ks))
  where
    Held : Type 0
    Held = Memᴰ k (x ∷ xs) ⊎ Memᴰ k ks

    out : Memᴰ k xs ⊎ Memᴰ k (insert x ks) → Held
    out (inl m) = inl (Memᴰ.tail m)
    out (inr m) = new ((insert_holds k x ks).0 m)
      where
        new : (k ≡ x) ⊎ Memᴰ k ks → Held
        new (inl q) = inl (Memᴰ.head q)
        new (inr n) = inr n

    into : Held → Memᴰ k xs ⊎ Memᴰ k (insert x ks)
    into (inl m) = first (Memᴰ.cases_cons m)
      where
        first : (k ≡ x) ⊎ Memᴰ k xs → Memᴰ k xs ⊎ Memᴰ k (insert x ks)
        first (inl q) = inr ((insert_holds k x ks).1 (inl q))
        first (inr n) = inl n
    into (inr m) = inr ((insert_holds k x ks).1 (inr m))

    step : (Memᴰ k (insert_all xs (insert x ks)) ↔ (Memᴰ k xs ⊎ Memᴰ k (insert x ks)))
        → Memᴰ k (insert_all xs (insert x ks)) ↔ Held
    step ih = (λ m. out (ih.0 m), λ h. ih.1 (into h))

-- "A key already in that set costs nothing"
pub insert_all_known : (xs ks : List Bytes) → All (λ x. Memᴰ x ks) xs → Ascends ks → insert_all xs ks ≡ ks
unfolding insert_all
insert_all_known [] ks m a = refl
insert_all_known (x ∷ xs) ks m a = rw (insert_known x ks m.0 a) (insert_all_known xs ks m.1 a)

-- nothing is lost
pub insert_all_longer : (xs ks : List Bytes) → length ks ≤ length (insert_all xs ks)
unfolding insert_all
insert_all_longer [] ks = omega arith
insert_all_longer (x ∷ xs) ks = omega (arith, insert_longer x ks, insert_all_longer xs (insert x ks))

insert_bytes : (k : Bytes) (ks : List Bytes) → set_bytes ks ≤ set_bytes (insert k ks)
unfolding insert sum
insert_bytes k [] = omega arith
insert_bytes k (x ∷ xs) = step (insert_bytes k xs) (order k x)
  where
    step : set_bytes xs ≤ set_bytes (insert k xs) → (o : Ordering) → length x + set_bytes xs ≤ set_bytes (stands o (k ∷ x ∷ xs) (x ∷ xs) (x ∷ insert k xs))
    step ih lt = omega arith
    step ih eq = omega arith
    step ih gt = omega arith

-- no key byte is lost
pub insert_all_bytes : (xs ks : List Bytes) → set_bytes ks ≤ set_bytes (insert_all xs ks)
unfolding insert_all
insert_all_bytes [] ks = omega arith
insert_all_bytes (x ∷ xs) ks = omega (arith, insert_bytes x ks, insert_all_bytes xs (insert x ks))
