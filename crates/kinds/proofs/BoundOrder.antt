-- "Both are total orders": of starts and of ends.
use Prim.Native.Nat.{ℕ}
use mathlib.Core.Path.{◌≡◌, refl, sym, ap, ◌∙◌}
use mathlib.Core.Logic.{◌↔◌}
use mathlib.Core.Bool.{Bool, true, false}
use mathlib.Core.List.{List}
use mathlib.Core.Ordering.{Ordering, lt, eq, gt, swap, then, lt≢eq, gt≢eq}
use Rattle.keys.specs.Order.{order, is_more, not_more}
use Rattle.keys.proofs.OrderLaws.{order_refl, order_eq, order_swap, order_trans}
use Rattle.kinds.specs.Bounds.{Bound, unbounded, included, excluded, start_order, end_order}
use Rattle.kinds.proofs.Cuts.{start_cut, end_cut, start_order_lem, end_order_lem}

-- a comparison that answers eq exactly for equals, the opposite the other way round, and passes "less" on
pub record IsTotal {A : Type 0} (compare : A → A → Ordering) : Type 0 where
  pub same : (a b : A) → (compare a b ≡ eq) ↔ (a ≡ b)
  pub swapped : (a b : A) → compare b a ≡ swap (compare a b)
  pub trans : (a b c : A) → compare a b ≡ lt → compare b c ≡ lt → compare a c ≡ lt

-- what ties at two tests ties at each
pub both_tie : (o p : Ordering) → then o p ≡ eq → (o ≡ eq) × (p ≡ eq)
unfolding then
both_tie lt p e = absurd (lt≢eq e)
both_tie eq p e = (refl, e)
both_tie gt p e = absurd (gt≢eq e)

start_same : (a b : Bound) → start_order a b ≡ eq → a ≡ b
start_same unbounded unbounded e = refl
start_same unbounded (included b) e = cc
start_same unbounded (excluded b) e = cc
start_same (included a) unbounded e = cc
start_same (included a) (included b) e = ap included (order_eq a b e)
start_same (included a) (excluded b) e = cc (both_tie (order a b) lt e).1
start_same (excluded a) unbounded e = cc
start_same (excluded a) (included b) e = cc (both_tie (order a b) gt e).1
start_same (excluded a) (excluded b) e = ap excluded (order_eq a b e)

end_same : (a b : Bound) → end_order a b ≡ eq → a ≡ b
end_same unbounded unbounded e = refl
end_same unbounded (included b) e = cc
end_same unbounded (excluded b) e = cc
end_same (included a) unbounded e = cc
end_same (included a) (included b) e = ap included (order_eq a b e)
end_same (included a) (excluded b) e = cc (both_tie (order a b) gt e).1
end_same (excluded a) unbounded e = cc
end_same (excluded a) (included b) e = cc (both_tie (order a b) lt e).1
end_same (excluded a) (excluded b) e = ap excluded (order_eq a b e)

module _ (compare : Bound → Bound → Ordering) (cut : Bound → List ℕ) (is : (a b : Bound) → compare a b ≡ order (cut a) (cut b)) (same : (a b : Bound) → compare a b ≡ eq → a ≡ b) where
  total_by_cuts : IsTotal compare
  total_by_cuts =
      record {
        same = λ a b. (same a b, λ e. is a b ∙ rw e (order_refl (cut b)));
        swapped = λ a b. is b a ∙ order_swap (cut a) (cut b) ∙ ap swap (sym (is a b));
        trans = λ a b c h k. is a c ∙ order_trans (cut a) (cut b) (cut c) (sym (is a b) ∙ h) (sym (is b c) ∙ k);
      }

pub start_total : IsTotal start_order
start_total = total_by_cuts start_order start_cut start_order_lem start_same

pub end_total : IsTotal end_order
end_total = total_by_cuts end_order end_cut end_order_lem end_same

module _ {A : Type 0} {compare : A → A → Ordering} (total : IsTotal compare) where
  pub at_itself : (a : A) → not_more (compare a a) ≡ true
  at_itself a = ap not_more ((total.same a a).1 refl)

  -- whatever the test for more answers, one of two is at or before the other
  pub by_more : (a b : A) (P : Bool → Type 0) → (not_more (compare b a) ≡ true → P true) → (not_more (compare a b) ≡ true → P false) → P (is_more (compare a b))
  unfolding swap
  by_more a b P more less = go (compare a b) (compare b a) (total.swapped a b) less more
    where
      go : (o p : Ordering) → p ≡ swap o → (not_more o ≡ true → P false) → (not_more p ≡ true → P true) → P (is_more o)
      go lt p e l m = l refl
      go eq p e l m = l refl
      go gt p e l m = m (ap not_more e)

  -- what is picked of two by their comparison does not depend on which one stands first
  pub either_way : (a b : A) (pick : Ordering → A → A → A) → ((x y : A) → pick gt x y ≡ pick lt y x) → pick (compare a b) a b ≡ pick (compare b a) b a
  unfolding swap
  either_way a b pick h = go (compare a b) refl
    where
      go : (o : Ordering) → compare a b ≡ o → pick (compare a b) a b ≡ pick (compare b a) b a
      go lt d = rw (total.swapped a b, d) (sym (h b a))
      go eq d = let e = (total.same a b).0 d in rw (total.swapped a b, d) (λ i. pick eq (e i) (sym e i))
      go gt d = rw (total.swapped a b, d) (h a b)
