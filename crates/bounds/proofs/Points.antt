-- A point is included k to included k for some k, and holds k alone.
use Prim.Native.Nat.{ℕ}
use mathlib.Core.Path.{◌≡◌, refl, sym, ap, ◌∙◌}
use mathlib.Core.Logic.{◌↔◌}
use mathlib.Core.Bool.{true, ◌&&◌, false≢true}
use mathlib.Core.List.{List}
use mathlib.Core.Ordering.{Ordering, lt, eq, gt, swap}
use Rattle.keys.specs.Order.{order, is_same, not_more}
use Rattle.keys.proofs.OrderLaws.{order_refl, order_eq, order_swap}
use Rattle.kinds.specs.Bounds.{Bound, unbounded, included, excluded}
use Rattle.bounds.specs.Ranges.{Range, range, holds, is_point, is_point_pair}

pub record Point (r : Range) : Type 0 where
  pub key : List ℕ
  pub is : r ≡ range (included key) (included key)

pub same_is : (o : Ordering) → is_same o ≡ true → o ≡ eq
same_is lt e = cc
same_is eq e = refl
same_is gt e = cc

point_pair : (s e : Bound) → is_point_pair s e ≡ true → Point (range s e)
point_pair unbounded e h = absurd (false≢true h)
point_pair (included a) unbounded h = absurd (false≢true h)
point_pair (included a) (included b) h =
    let q = order_eq a b (same_is (order a b) h) in
    record { key = a; is = λ i. range (included a) (included (sym q i)) }
point_pair (included a) (excluded b) h = absurd (false≢true h)
point_pair (excluded a) e h = absurd (false≢true h)

pub point_means : (r : Range) → (is_point r ≡ true) ↔ Point r
point_means r = (point_pair r.start r.end, λ p. ap is_point p.is ∙ ap is_same (order_refl p.key))

pub point_holds : (r : Range) (p : Point r) (k : List ℕ) → holds r k ≡ is_same (order k p.key)
unfolding swap
point_holds r p k = ap (λ q. holds q k) p.is ∙ ap (λ o. not_more o && not_more (order k p.key)) (order_swap k p.key) ∙ go (order k p.key)
  where
    go : (o : Ordering) → (not_more (swap o) && not_more o) ≡ is_same o
    go lt = refl
    go eq = refl
    go gt = refl
