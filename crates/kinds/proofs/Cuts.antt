-- A bound cuts the keys in two: those before the cut and those after it. A cut is written as a list of numbers, so that
-- the laws of the byte order are the laws of bounds.
use Prim.Native.Nat.{ℕ, ◌<◌, ◌+◌}
use mathlib.Core.Path.{◌≡◌, refl, sym, ap, ◌∙◌}
use mathlib.Core.Bool.{true}
use mathlib.Core.List.{List, [], ◌∷◌}
use mathlib.Core.Ordering.{Ordering, lt, eq, gt, then}
use native.Mathlib.Omega.{arith}
use Rattle.keys.specs.Order.{order, is_less, not_more}
use Rattle.keys.proofs.OrderLaws.{not_more_trans, less_not_more}
use Rattle.keys.proofs.Heads.{head_less, head_more, head_same, Three, below, equal, above, three}
use Rattle.kinds.specs.Bounds.{Bound, unbounded, included, excluded, start_order, end_order, start_admits, end_admits}

-- a key and then a number that is less than every byte's: 0 for just before the key, 1 for just after it
unfoldable pub marked : ℕ → List ℕ → List ℕ
marked side [] = side ∷ []
marked side (x ∷ k) = (x + 2) ∷ marked side k

-- a cut at a key, between [], the cut before all keys, and 2 ∷ [], the cut after all keys
abbrev pub before : List ℕ → List ℕ
before k = 1 ∷ marked 0 k

abbrev pub after : List ℕ → List ℕ
after k = 1 ∷ marked 1 k

abbrev pub start_cut : Bound → List ℕ
start_cut unbounded = []
start_cut (included k) = before k
start_cut (excluded k) = after k

abbrev pub end_cut : Bound → List ℕ
end_cut unbounded = 2 ∷ []
end_cut (included k) = after k
end_cut (excluded k) = before k

module _ (s t : ℕ) (hs : s < 2) (ht : t < 2) where
  abbrev tie_by : Ordering → Ordering
  tie_by o = then o (order (s ∷ []) (t ∷ []))

  marked_order : (a b : List ℕ) → order (1 ∷ marked s a) (1 ∷ marked t b) ≡ tie_by (order a b)
  unfolding order marked then
  marked_order [] [] = refl
  marked_order [] (y ∷ b) = head_less s (y + 2) [] (marked t b) (omega arith)
  marked_order (x ∷ a) [] = head_more (x + 2) t (marked s a) [] (omega arith)
  marked_order (x ∷ a) (y ∷ b) = go (marked_order a b) (three x y)
    where
      go : order (marked s a) (marked t b) ≡ tie_by (order a b) → Three x y → order (marked s (x ∷ a)) (marked t (y ∷ b)) ≡ tie_by (order (x ∷ a) (y ∷ b))
      go ih (below l) = head_less (x + 2) (y + 2) (marked s a) (marked t b) (omega arith) ∙ ap tie_by (sym (head_less x y a b l))
      go ih (equal q) = rw (← q) (head_same (x + 2) (marked s a) (marked t b) ∙ ih ∙ ap tie_by (sym (head_same x a b)))
      go ih (above l) = head_more (x + 2) (y + 2) (marked s a) (marked t b) (omega arith) ∙ ap tie_by (sym (head_more x y a b l))

-- two functions of a comparison's answer are the same if they are so at each answer
pub each {ℓ} : {A : Type ℓ} (f g : Ordering → A) → f lt ≡ g lt → f eq ≡ g eq → f gt ≡ g gt → (o : Ordering) → f o ≡ g o
each f g l e m lt = l
each f g l e m eq = e
each f g l e m gt = m

module _ (a b : List ℕ) where
  no_tie : then (order a b) eq ≡ order a b
  unfolding then
  no_tie = each (λ o. then o eq) (λ o. o) refl refl refl (order a b)

  pub before_before : order a b ≡ order (before a) (before b)
  unfolding order
  before_before = sym (marked_order 0 0 (omega arith) (omega arith) a b ∙ no_tie)

  pub before_after : then (order a b) lt ≡ order (before a) (after b)
  unfolding order
  before_after = sym (marked_order 0 1 (omega arith) (omega arith) a b)

  pub after_before : then (order a b) gt ≡ order (after a) (before b)
  unfolding order
  after_before = sym (marked_order 1 0 (omega arith) (omega arith) a b)

  pub after_after : order a b ≡ order (after a) (after b)
  unfolding order
  after_after = sym (marked_order 1 1 (omega arith) (omega arith) a b ∙ no_tie)

pub start_order_lem : (a b : Bound) → start_order a b ≡ order (start_cut a) (start_cut b)
unfolding order
start_order_lem unbounded unbounded = refl
start_order_lem unbounded (included b) = refl
start_order_lem unbounded (excluded b) = refl
start_order_lem (included a) unbounded = refl
start_order_lem (included a) (included b) = before_before a b
start_order_lem (included a) (excluded b) = before_after a b
start_order_lem (excluded a) unbounded = refl
start_order_lem (excluded a) (included b) = after_before a b
start_order_lem (excluded a) (excluded b) = after_after a b

pub end_order_lem : (a b : Bound) → end_order a b ≡ order (end_cut a) (end_cut b)
unfolding order
end_order_lem unbounded unbounded = refl
end_order_lem unbounded (included b) = refl
end_order_lem unbounded (excluded b) = refl
end_order_lem (included a) unbounded = refl
end_order_lem (included a) (included b) = after_after a b
end_order_lem (included a) (excluded b) = after_before a b
end_order_lem (excluded a) unbounded = refl
end_order_lem (excluded a) (included b) = before_after a b
end_order_lem (excluded a) (excluded b) = before_before a b

-- a key lies in a range as the cut before it lies at or after the start's and before the end's
pub start_admits_lem : (s : Bound) (k : List ℕ) → start_admits s k ≡ not_more (order (start_cut s) (before k))
unfolding order then
start_admits_lem unbounded k = refl
start_admits_lem (included a) k = ap not_more (before_before a k)
start_admits_lem (excluded a) k = each is_less (λ o. not_more (then o gt)) refl refl refl (order a k) ∙ ap not_more (after_before a k)

pub end_admits_lem : (e : Bound) (k : List ℕ) → end_admits e k ≡ is_less (order (before k) (end_cut e))
unfolding order then
end_admits_lem unbounded k = refl
end_admits_lem (included b) k = each not_more (λ o. is_less (then o lt)) refl refl refl (order k b) ∙ ap is_less (before_after k b)
end_admits_lem (excluded b) k = ap is_less (before_before k b)

module _ (k : List ℕ) where
  -- a lesser start and a greater end admit all that the other does
  pub start_wider : (a b : Bound) → not_more (start_order a b) ≡ true → start_admits b k ≡ true → start_admits a k ≡ true
  start_wider a b h e =
      start_admits_lem a k
      ∙ not_more_trans (start_cut a) (start_cut b) (before k) (ap not_more (sym (start_order_lem a b)) ∙ h) (sym (start_admits_lem b k) ∙ e)

  pub end_wider : (a b : Bound) → not_more (end_order a b) ≡ true → end_admits a k ≡ true → end_admits b k ≡ true
  end_wider a b h e =
      end_admits_lem b k
      ∙ less_not_more (before k) (end_cut a) (end_cut b) (sym (end_admits_lem a k) ∙ e) (ap not_more (sym (end_order_lem a b)) ∙ h)
