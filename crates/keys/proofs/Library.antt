-- The library's comparison, equality and prefix of byte slices are those of the definitions.
use Prim.Native.Nat.{ℕ, suc, ◌≤◌, ◌<◌}
use mathlib.Core.Path.{◌≡◌, refl, sym, ap, ◌∙◌}
use mathlib.Core.Bool.{Bool, true, false, ◌&&◌}
use mathlib.Core.List.{List, [], ◌∷◌}
use mathlib.Core.Ordering as three_way
use native.Mathlib.Omega.{arith}
use borrow.Author.Tests.{lt-ltb, le-ltb, eq-eqb, ne_eqb}
use lib.Dec.{eqb}
use lib.IntN.{◌+ℤ◌, negsuc}
use lib.ListN.{length, take, drop, get_or}
use lib.Seq.{drop-cons}
use Rattle.std.proofs.lemmas.List.{drop_all}
use lib.Pointwise.{pointwise}
use mir.Syntax.{w8}
use mir.Val.{to_z, of_z}
use denote.Enum.Declared.{tag_of}
use Rattle.std.specs.declared.cmp.Ordering.{Ordering}
use Rattle.std.specs.declared.cmp.Ordering.TheVariants.{Less, Equal, Greater}
use Rattle.std.specs.contracts.cmp.Ordering.{the_type}
use Rattle.std.specs.Ordering.{nat_cmp, ordering_then}
use Rattle.std.specs.Cmp.Lexicographic.{slice_cmp}
use Rattle.keys.specs.Order.{order, sign, is_same, starts_with}
use Rattle.keys.proofs.Heads.{head_less, head_more, head_same, Three, below, equal, above, three}

abbrev pub as_order : Ordering → three_way.Ordering
as_order Less = three_way.lt
as_order Equal = three_way.eq
as_order Greater = three_way.gt

pub number_is : (o : Ordering) → to_z w8 (of_z w8 (to_z w8 (tag_of the_type o) +ℤ negsuc 0)) ≡ sign (as_order o)
number_is Less = refl
number_is Equal = refl
number_is Greater = refl

pub order_is : (a b : List ℕ) → as_order (slice_cmp nat_cmp a b) ≡ order a b
unfolding order
order_is [] [] = refl
order_is [] (y ∷ b) = refl
order_is (x ∷ a) [] = refl
order_is (x ∷ a) (y ∷ b) = go (order_is a b) (three x y)
  where
    go : as_order (slice_cmp nat_cmp a b) ≡ order a b → Three x y → as_order (ordering_then (nat_cmp x y) (slice_cmp nat_cmp a b)) ≡ order (x ∷ a) (y ∷ b)
    go ih (below l) = rw (lt-ltb x y l)
    go ih (equal e) = let h : x ≤ x = omega arith in rw (← e, le-ltb x x h, eq-eqb x x refl) ih
    go ih (above l) = let h : y ≤ x = omega arith in rw (le-ltb x y h, ne_eqb x y (λ e. omega arith), lt-ltb y x l)

-- where two strings agree before a place, what stands from there on decides
pub next_is : (a b : List ℕ) (i : ℕ) → i < length a → i < length b → get_or a i 0 ≡ get_or b i 0 → order (drop i a) (drop i b) ≡ order (drop (suc i) a) (drop (suc i) b)
next_is a b i h k e = rw (drop-cons a i 0 h, drop-cons b i 0 k, e) (head_same (get_or b i 0) (drop (suc i) a) (drop (suc i) b))

-- the first bytes that differ decide
pub lesser_is : (a b : List ℕ) (i : ℕ) → i < length a → i < length b → get_or a i 0 < get_or b i 0 → order (drop i a) (drop i b) ≡ three_way.lt
lesser_is a b i h k l = rw (drop-cons a i 0 h, drop-cons b i 0 k) (head_less (get_or a i 0) (get_or b i 0) (drop (suc i) a) (drop (suc i) b) l)

pub greater_is : (a b : List ℕ) (i : ℕ) → i < length a → i < length b → get_or b i 0 < get_or a i 0 → order (drop i a) (drop i b) ≡ three_way.gt
greater_is a b i h k l = rw (drop-cons a i 0 h, drop-cons b i 0 k) (head_more (get_or a i 0) (get_or b i 0) (drop (suc i) a) (drop (suc i) b) l)

pub same_is : (a b : List ℕ) → pointwise eqb a b ≡ is_same (order a b)
unfolding order
same_is [] [] = refl
same_is [] (y ∷ b) = refl
same_is (x ∷ a) [] = refl
same_is (x ∷ a) (y ∷ b) = go (same_is a b) (three x y)
  where
    go : pointwise eqb a b ≡ is_same (order a b) → Three x y → (eqb x y && pointwise eqb a b) ≡ is_same (order (x ∷ a) (y ∷ b))
    go ih (below l) = rw (ne_eqb x y (λ e. omega arith)) (sym (ap is_same (head_less x y a b l)))
    go ih (equal e) = rw (← e, eq-eqb x x refl) (ih ∙ sym (ap is_same (head_same x a b)))
    go ih (above l) = rw (ne_eqb x y (λ e. omega arith)) (sym (ap is_same (head_more x y a b l)))

pub front_is : (p k : List ℕ) → pointwise eqb p (take (length p) k) ≡ starts_with p k
unfolding starts_with
front_is [] k = refl
front_is (x ∷ p) [] = refl
front_is (x ∷ p) (y ∷ k) = ap (λ t. eqb x y && t) (front_is p k)

-- no key starts with a longer prefix
pub longer_is : (p k : List ℕ) → length k < length p → starts_with p k ≡ false
unfolding starts_with
longer_is [] k h = absurd (omega arith)
longer_is (x ∷ p) [] h = refl
longer_is (x ∷ p) (y ∷ k) h = rw (longer_is p k (omega arith)) (go (eqb x y))
  where
    go : (b : Bool) → (b && false) ≡ false
    go true = refl
    go false = refl

-- where one of two strings ends that agree up to there, the lengths decide
pub second_ends : (a b : List ℕ) (i : ℕ) → i < length a → length b ≤ i → order (drop i a) (drop i b) ≡ three_way.gt
unfolding order
second_ends a b i h k = rw (drop-cons a i 0 h, drop_all i b k)

pub first_ends : (a b : List ℕ) (i : ℕ) → length a ≤ i → i < length b → order (drop i a) (drop i b) ≡ three_way.lt
unfolding order
first_ends a b i h k = rw (drop_all i a h, drop-cons b i 0 k)

pub both_end : (a b : List ℕ) (i : ℕ) → length a ≤ i → length b ≤ i → order (drop i a) (drop i b) ≡ three_way.eq
unfolding order
both_end a b i h k = rw (drop_all i a h, drop_all i b k)
