-- The order of ranges is total too; and the greater and the lesser of two, picked as the definitions do.
use mathlib.Core.Path.{◌≡◌, refl}
use mathlib.Core.Bool.{true, cond}
use mathlib.Core.Ordering.{Ordering, lt, eq, gt, swap, then, gt≢lt}
use Rattle.keys.specs.Order.{is_more, not_more}
use Rattle.kinds.specs.Bounds.{start_order, end_order}
use Rattle.kinds.proofs.BoundOrder.{IsTotal, both_tie, start_total, end_total, at_itself, by_more}
use Rattle.bounds.specs.declared.sides.Side.TheVariants.{First, Second}
use Rattle.bounds.specs.Ranges.{Range, range, range_order}
use Rattle.bounds.specs.Sides.{sided}

range_same : (a b : Range) → range_order a b ≡ eq → a ≡ b
range_same a b e =
    let t = both_tie (start_order a.start b.start) (end_order a.end b.end) e in
    let p = (start_total.same a.start b.start).0 t.0 in
    let q = (end_total.same a.end b.end).0 t.1 in
    λ i. range (p i) (q i)

range_refl : (a : Range) → range_order a a ≡ eq
unfolding then
range_refl a = rw ((start_total.same a.start a.start).1 refl) ((end_total.same a.end a.end).1 refl)

range_swap : (a b : Range) → range_order b a ≡ swap (range_order a b)
unfolding then swap
range_swap a b = rw (start_total.swapped a.start b.start, end_total.swapped a.end b.end) (go (start_order a.start b.start) (end_order a.end b.end))
  where
    go : (o p : Ordering) → then (swap o) (swap p) ≡ swap (then o p)
    go lt p = refl
    go eq p = refl
    go gt p = refl

range_trans : (a b c : Range) → range_order a b ≡ lt → range_order b c ≡ lt → range_order a c ≡ lt
unfolding then
range_trans a b c h k = go (start_order a.start b.start) refl (start_order b.start c.start) refl
  where
    go : (o : Ordering) → start_order a.start b.start ≡ o → (p : Ordering) → start_order b.start c.start ≡ p → range_order a c ≡ lt
    go lt d lt e = rw (start_total.trans a.start b.start c.start d e)
    go lt d eq e = rw (← (start_total.same b.start c.start).0 e, d)
    go lt d gt e = absurd (gt≢lt (rw e at k))
    go eq d lt e = rw ((start_total.same a.start b.start).0 d, e)
    go eq d eq e =
        rw ((start_total.same a.start b.start).0 d, e) (end_total.trans a.end b.end c.end (rw d at h) (rw e at k))
    go eq d gt e = absurd (gt≢lt (rw e at k))
    go gt d p e = absurd (gt≢lt (rw d at h))

pub range_total : IsTotal range_order
range_total =
    record { same = λ a b. (range_same a b, λ e. rw e (range_refl b)); swapped = range_swap; trans = range_trans }

module _ {A : Type 0} {compare : A → A → Ordering} (total : IsTotal compare) where
  pub greater_first : (a b : A) → not_more (compare a (sided (cond (is_more (compare a b)) First Second) a b)) ≡ true
  greater_first a b = by_more total a b (λ t. not_more (compare a (sided (cond t First Second) a b)) ≡ true) (λ l. at_itself total a) (λ l. l)

  pub greater_second : (a b : A) → not_more (compare b (sided (cond (is_more (compare a b)) First Second) a b)) ≡ true
  greater_second a b = by_more total a b (λ t. not_more (compare b (sided (cond t First Second) a b)) ≡ true) (λ l. l) (λ l. at_itself total b)

  pub lesser_first : (a b : A) → not_more (compare (sided (cond (is_more (compare a b)) Second First) a b) a) ≡ true
  lesser_first a b = by_more total a b (λ t. not_more (compare (sided (cond t Second First) a b) a) ≡ true) (λ l. l) (λ l. at_itself total a)
