-- The laws of the byte order: it is total, a proper prefix comes first, and the first difference decides.
use Prim.Native.Nat.{ℕ, ◌<◌}
use mathlib.Core.Path.{◌≡◌, refl, sym, ap, ◌∙◌}
use mathlib.Core.Logic.{◌↔◌}
use mathlib.Core.Bool.{true, not, false≢true, and-eq-true_iff}
use mathlib.Core.List.{List, [], ◌∷◌, ◌++◌}
use mathlib.Core.Ordering.{Ordering, lt, eq, gt, swap, then, eq≢lt, gt≢lt}
use native.Mathlib.Omega.{arith}
use borrow.Author.Tests.{eq-eqb, eqb-true}
use lib.Dec.{eqb}
use Rattle.keys.specs.Order.{order, is_less, not_more, starts_with}
use Rattle.keys.proofs.Heads.{head_less, head_more, head_same, Three, below, equal, above, three}

tails : (x y : ℕ) (a b : List ℕ) → x ≡ y → order (x ∷ a) (y ∷ b) ≡ order a b
tails x y a b q = rw (← q) (head_same x a b)

pub order_refl : (a : List ℕ) → order a a ≡ eq
unfolding order
order_refl [] = refl
order_refl (x ∷ a) = head_same x a a ∙ order_refl a

pub order_eq : (a b : List ℕ) → order a b ≡ eq → a ≡ b
unfolding order
order_eq [] [] e = refl
order_eq [] (y ∷ b) e = cc
order_eq (x ∷ a) [] e = cc
order_eq (x ∷ a) (y ∷ b) e = go (order_eq a b) (three x y)
  where
    go : (order a b ≡ eq → a ≡ b) → Three x y → x ∷ a ≡ y ∷ b
    go ih (below l) = cc (head_less x y a b l)
    go ih (equal q) = let r = ih (sym (tails x y a b q) ∙ e) in cc
    go ih (above l) = cc (head_more x y a b l)

pub order_swap : (a b : List ℕ) → order b a ≡ swap (order a b)
unfolding order swap
order_swap [] [] = refl
order_swap [] (y ∷ b) = refl
order_swap (x ∷ a) [] = refl
order_swap (x ∷ a) (y ∷ b) = go (order_swap a b) (three x y)
  where
    go : order b a ≡ swap (order a b) → Three x y → order (y ∷ b) (x ∷ a) ≡ swap (order (x ∷ a) (y ∷ b))
    go ih (below l) = head_more y x b a l ∙ ap swap (sym (head_less x y a b l))
    go ih (equal q) = tails y x b a (sym q) ∙ ih ∙ ap swap (sym (tails x y a b q))
    go ih (above l) = head_less y x b a l ∙ ap swap (sym (head_more x y a b l))

pub order_trans : (a b c : List ℕ) → order a b ≡ lt → order b c ≡ lt → order a c ≡ lt
unfolding order
order_trans [] [] c h k = k
order_trans [] (y ∷ b) [] h k = cc
order_trans [] (y ∷ b) (z ∷ c) h k = refl
order_trans (x ∷ a) [] c h k = cc
order_trans (x ∷ a) (y ∷ b) [] h k = k
order_trans (x ∷ a) (y ∷ b) (z ∷ c) h k = go (order_trans a b c) (three x y) (three y z)
  where
    go : (order a b ≡ lt → order b c ≡ lt → order a c ≡ lt) → Three x y → Three y z → order (x ∷ a) (z ∷ c) ≡ lt
    go ih (below l) (below m) = head_less x z a c (omega arith)
    go ih (below l) (equal r) = head_less x z a c (omega arith)
    go ih (below l) (above m) = cc (head_more y z b c m)
    go ih (equal q) (below m) = head_less x z a c (omega arith)
    go ih (equal q) (equal r) = tails x z a c (q ∙ r) ∙ ih (sym (tails x y a b q) ∙ h) (sym (tails y z b c r) ∙ k)
    go ih (equal q) (above m) = cc (head_more y z b c m)
    go ih (above l) t = cc (head_more x y a b l)

-- if a <= b and b <= c, then a stands against c as against b, or where it is at b, as b against c
order_chain : (a b c : List ℕ) → not_more (order a b) ≡ true → not_more (order b c) ≡ true → order a c ≡ then (order a b) (order b c)
unfolding then
order_chain a b c h k = go (order a b) refl (order b c) refl
  where
    go : (o : Ordering) → order a b ≡ o → (p : Ordering) → order b c ≡ p → order a c ≡ then (order a b) (order b c)
    go lt d lt e = rw d (order_trans a b c d e)
    go lt d eq e = rw (← order_eq b c e, d)
    go lt d gt e = absurd (false≢true (rw e at k))
    go eq d p e = rw (order_eq a b d, order_refl b)
    go gt d p e = absurd (false≢true (rw d at h))

pub less_is : (o : Ordering) → is_less o ≡ true → o ≡ lt
less_is lt e = refl
less_is eq e = cc
less_is gt e = cc

module _ (a b c : List ℕ) where
  pub not_more_trans : not_more (order a b) ≡ true → not_more (order b c) ≡ true → not_more (order a c) ≡ true
  unfolding then
  not_more_trans h k = ap not_more (order_chain a b c h k) ∙ go (order a b) h
    where
      go : (o : Ordering) → not_more o ≡ true → not_more (then o (order b c)) ≡ true
      go lt e = refl
      go eq e = k
      go gt e = e

  pub less_not_more : is_less (order a b) ≡ true → not_more (order b c) ≡ true → is_less (order a c) ≡ true
  unfolding then
  less_not_more h k =
      let d = less_is (order a b) h in
      ap is_less (order_chain a b c (ap not_more d) k) ∙ rw d

  pub not_more_less : not_more (order a b) ≡ true → is_less (order b c) ≡ true → is_less (order a c) ≡ true
  unfolding then
  not_more_less h k =
      let d = less_is (order b c) k in
      ap is_less (order_chain a b c h (ap not_more d)) ∙ rw d (go (order a b) h)
    where
      go : (o : Ordering) → not_more o ≡ true → is_less (then o lt) ≡ true
      go lt e = refl
      go eq e = refl
      go gt e = e

-- one of two comes at or before the other
pub not_more_swap : (a b : List ℕ) → not_more (order b a) ≡ not (is_less (order a b))
unfolding swap
not_more_swap a b = ap not_more (order_swap a b) ∙ go (order a b)
  where
    go : (o : Ordering) → not_more (swap o) ≡ not (is_less o)
    go lt = refl
    go eq = refl
    go gt = refl

-- the first difference decides
pub same_front : (p a b : List ℕ) → order (p ++ a) (p ++ b) ≡ order a b
same_front [] a b = refl
same_front (x ∷ p) a b = head_same x (p ++ a) (p ++ b) ∙ same_front p a b

pub differ : (p a b : List ℕ) (x y : ℕ) → x < y → order (p ++ (x ∷ a)) (p ++ (y ∷ b)) ≡ lt
differ p a b x y l = same_front p (x ∷ a) (y ∷ b) ∙ head_less x y a b l

pub prefix_first : (p s : List ℕ) (x : ℕ) → order p (p ++ (x ∷ s)) ≡ lt
unfolding order
prefix_first [] s x = refl
prefix_first (y ∷ p) s x = head_same y p (p ++ (x ∷ s)) ∙ prefix_first p s x

-- the two ways of being less: b is a with something after it; or after equal fronts a has the lesser byte
pub data Less (a b : List ℕ) : Type 0 where
  longer : (x : ℕ) (s : List ℕ) → b ≡ a ++ (x ∷ s) → Less a b
  differs : (p : List ℕ) (x y : ℕ) (s t : List ℕ) → a ≡ p ++ (x ∷ s) → b ≡ p ++ (y ∷ t) → x < y → Less a b

less_after : (x : ℕ) {a b : List ℕ} → Less a b → Less (x ∷ a) (x ∷ b)
less_after x (longer y s e) = longer y s (cc)
less_after x (differs p y z s t d e l) = differs (x ∷ p) y z s t (cc) (cc) l

pub less_means : (a b : List ℕ) → order a b ≡ lt → Less a b
unfolding order
less_means [] [] e = absurd (eq≢lt e)
less_means [] (y ∷ b) e = longer y b refl
less_means (x ∷ a) [] e = absurd (gt≢lt e)
less_means (x ∷ a) (y ∷ b) e = go (less_means a b) (three x y)
  where
    go : (order a b ≡ lt → Less a b) → Three x y → Less (x ∷ a) (y ∷ b)
    go ih (below l) = differs [] x y a b refl refl l
    go ih (equal q) = rw (← q) (less_after x (ih (sym (tails x y a b q) ∙ e)))
    go ih (above l) = absurd (gt≢lt (sym (head_more x y a b l) ∙ e))

-- what a key has after a prefix that it starts with
pub record Starts (p k : List ℕ) : Type 0 where
  pub rest : List ℕ
  pub is : k ≡ p ++ rest

starts_front : (p rest : List ℕ) → starts_with p (p ++ rest) ≡ true
unfolding starts_with
starts_front [] rest = refl
starts_front (x ∷ p) rest = rw (eq-eqb x x refl) (starts_front p rest)

starts_rest : (p k : List ℕ) → starts_with p k ≡ true → Starts p k
unfolding starts_with
starts_rest [] k e = record { rest = k; is = refl }
starts_rest (x ∷ p) [] e = absurd (false≢true e)
starts_rest (x ∷ p) (y ∷ k) e =
    let b = (and-eq-true_iff (eqb x y) (starts_with p k)).0 e in
    let s = starts_rest p k b.1 in
    record { rest = s.rest; is = cc (eqb-true x y b.0, s.is) }

pub starts_means : (p k : List ℕ) → (starts_with p k ≡ true) ↔ Starts p k
starts_means p k = (starts_rest p k, λ s. rw s.is (starts_front p s.rest))
