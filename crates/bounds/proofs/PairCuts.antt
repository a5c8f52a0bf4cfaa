-- Where a start and an end cut the keys: a pair's emptiness and touching by the two cuts.
use mathlib.Core.Path.{◌≡◌, refl, ap, ◌∙◌}
use mathlib.Core.Bool.{false}
use mathlib.Core.Ordering.{lt, gt, then}
use Rattle.keys.specs.Order.{order, is_less, is_same}
use Rattle.kinds.specs.Bounds.{Bound, unbounded, included, excluded}
use Rattle.kinds.proofs.Cuts.{start_cut, end_cut, each, before_before, before_after, after_before, after_after, end_admits_lem}
use Rattle.bounds.specs.Ranges.{not_empty_pair, touches_pair}

-- a pair is not empty if its start cuts before its end does
pub not_empty_lem : (s e : Bound) → not_empty_pair s e ≡ is_less (order (start_cut s) (end_cut e))
unfolding order then
not_empty_lem unbounded unbounded = refl
not_empty_lem unbounded (included b) = refl
not_empty_lem unbounded (excluded b) = refl
not_empty_lem (included a) unbounded = refl
not_empty_lem (included a) (included b) = end_admits_lem (included b) a
not_empty_lem (included a) (excluded b) = end_admits_lem (excluded b) a
not_empty_lem (excluded a) unbounded = refl
not_empty_lem (excluded a) (included b) = ap is_less (after_after a b)
not_empty_lem (excluded a) (excluded b) = each is_less (λ o. is_less (then o gt)) refl refl refl (order a b) ∙ ap is_less (after_before a b)

-- an end touches a start if both cut at the same place
pub touching : (e s : Bound) → touches_pair e s ≡ is_same (order (end_cut e) (start_cut s))
unfolding order then
touching unbounded unbounded = refl
touching unbounded (included b) = refl
touching unbounded (excluded b) = refl
touching (included a) unbounded = refl
touching (included a) (included b) = each (λ o. false) (λ o. is_same (then o gt)) refl refl refl (order a b) ∙ ap is_same (after_before a b)
touching (included a) (excluded b) = ap is_same (after_after a b)
touching (excluded a) unbounded = refl
touching (excluded a) (included b) = ap is_same (before_before a b)
touching (excluded a) (excluded b) = each (λ o. false) (λ o. is_same (then o lt)) refl refl refl (order a b) ∙ ap is_same (before_after a b)
