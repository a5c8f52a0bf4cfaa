-- The two bound orders by the keys' order and the kinds' tie, for starts and ends at once.
use Prim.Native.Nat.{ℕ}
use mathlib.Core.Path.{◌≡◌, refl}
use mathlib.Core.Bool.{Bool, true, false}
use mathlib.Core.List.{List}
use mathlib.Core.Ordering.{Ordering, lt, eq, gt, swap, then}
use native.Mathlib.Omega.{arith}
use lib.IntN.{pos, ◌-ℤ◌}
use mir.Syntax.{w8}
use mir.Val.{to_z, of_z}
use Rattle.keys.specs.Order.{order, sign}
use Rattle.kinds.specs.declared.kind.Kind.{Kind}
use Rattle.kinds.specs.declared.kind.Kind.TheVariants.{Unbounded, Included, Excluded}
use Rattle.kinds.specs.Bounds.{bound, is_bounded, tie_of, bound_order}

same_then : (o : Ordering) → then o eq ≡ o
unfolding then
same_then lt = refl
same_then eq = refl
same_then gt = refl

module _ (a b : List ℕ) where
  pub first_open : (s : Bool) (k l : Kind) → is_bounded k ≡ false → tie_of s k l ≡ bound_order s (bound k a) (bound l b)
  unfolding swap
  first_open true Unbounded Unbounded e = refl
  first_open true Unbounded Included e = refl
  first_open true Unbounded Excluded e = refl
  first_open false Unbounded Unbounded e = refl
  first_open false Unbounded Included e = refl
  first_open false Unbounded Excluded e = refl
  first_open s Included l e = cc
  first_open s Excluded l e = cc

  pub second_open : (s : Bool) (k l : Kind) → is_bounded l ≡ false → tie_of s k l ≡ bound_order s (bound k a) (bound l b)
  unfolding swap
  second_open true Unbounded Unbounded e = refl
  second_open true Included Unbounded e = refl
  second_open true Excluded Unbounded e = refl
  second_open false Unbounded Unbounded e = refl
  second_open false Included Unbounded e = refl
  second_open false Excluded Unbounded e = refl
  second_open s k Included e = cc
  second_open s k Excluded e = cc

  pub both_bounded : (s : Bool) (k l : Kind) → is_bounded k ≡ true → is_bounded l ≡ true → then (order a b) (tie_of s k l) ≡ bound_order s (bound k a) (bound l b)
  unfolding swap
  both_bounded s Unbounded l d e = cc
  both_bounded s Included Unbounded d e = cc
  both_bounded s Excluded Unbounded d e = cc
  both_bounded true Included Included d e = same_then (order a b)
  both_bounded true Included Excluded d e = refl
  both_bounded true Excluded Included d e = refl
  both_bounded true Excluded Excluded d e = same_then (order a b)
  both_bounded false Included Included d e = same_then (order a b)
  both_bounded false Included Excluded d e = refl
  both_bounded false Excluded Included d e = refl
  both_bounded false Excluded Excluded d e = same_then (order a b)

-- the answer handed on, negated, and where the keys tie or not
pub kept_sign : (s : Ordering) → to_z w8 (of_z w8 (sign s)) ≡ sign s
kept_sign lt = refl
kept_sign eq = refl
kept_sign gt = refl

pub negated_sign : (s : Ordering) → to_z w8 (of_z w8 (pos 0 -ℤ to_z w8 (of_z w8 (sign s)))) ≡ sign (swap s)
unfolding swap
negated_sign lt = refl
negated_sign eq = refl
negated_sign gt = refl

pub tied : (s t : Ordering) → of_z w8 (sign s) ≡ 0 → sign t ≡ sign (then s t)
unfolding then
tied lt t e = absurd (omega arith)
tied eq t e = refl
tied gt t e = absurd (omega arith)

pub untied : (s t : Ordering) → (of_z w8 (sign s) ≡ 0 → ⊥) → sign s ≡ sign (then s t)
unfolding then
untied lt t n = refl
untied eq t n = absurd (n refl)
untied gt t n = refl
