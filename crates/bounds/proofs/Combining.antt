-- How intersect's and union's answers follow from the sides that code found.
use Prim.Native.Nat.{ℕ}
use mathlib.Core.Path.{◌≡◌, refl, sym, ap, ◌∙◌}
use mathlib.Core.Bool.{Bool, true, false, cond, ◌||◌}
use mathlib.Core.List.{List}
use Rattle.keys.specs.Order.{is_less}
use Rattle.kinds.specs.declared.kind.Kind.{Kind}
use Rattle.bounds.specs.declared.sides.Side.{Side}
use Rattle.bounds.specs.declared.sides.Side.TheVariants.{First, Second}
use Rattle.bounds.specs.declared.sides.Sides.{Sides}
use Rattle.std.specs.Prelude.{Option, Some, None, is_some, option_map, MatchOption, IsSomeAnd}
use Rattle.std.specs.Bool.{then_some}
use denote.Ref.{Bor}
use Rattle.kinds.specs.Bounds.{Bound, bound}
use Rattle.bounds.specs.Ranges.{Range, not_empty_pair, touches, range_order, intersect_of, join_of, union_of}
use Rattle.bounds.specs.Sides.{sided, max_start, min_end, max_end, sides, swap_sides}

-- the kind and the key that a side picks make the bound that it picks
pub picked : (s : Side) (k l : Kind) (x y : Bor (List ℕ)) {m : Kind} {p : Bor (List ℕ)} → m ≡ sided s k l → p ≡ sided s x y → sided s (bound k x.now) (bound l y.now) ≡ bound m p.now
picked First k l x y em ep = sym (λ i. bound (em i) (ep i).now)
picked Second k l x y em ep = sym (λ i. bound (em i) (ep i).now)

-- what is answered for the two ranges the other way round
pub turned : (o r : Option Sides) → MatchOption o (r ≡ None) (λ p. IsSomeAnd r (λ q. q ≡ swap_sides p)) → r ≡ option_map swap_sides o
turned None r h = h
turned (Some p) None h = absurd h
turned (Some p) (Some q) h = ap Some h

pub shown : (t : Bool) (p : Sides) → then_some t p ≡ cond t (Some p) None
shown true p = refl
shown false p = refl

module _ (a b : Range) where
  pub intersected : {s e : Side} {m n : Bound} {t : Bool} → s ≡ max_start a.start b.start → e ≡ min_end a.end b.end → sided s a.start b.start ≡ m → sided e a.end b.end ≡ n → not_empty_pair m n ≡ t → cond t (Some (sides s e)) None ≡ intersect_of a b
  unfolding intersect_of
  intersected {s} {e} hs he hm hn ht =
      let u : not_empty_pair (sided s a.start b.start) (sided e a.end b.end) ≡ _ = (λ i. not_empty_pair (hm i) (hn i)) ∙ ht in
      sym (ap (λ v. cond v (Some (sides s e)) None) u)
      ∙ (λ i. cond (not_empty_pair (sided (hs i) a.start b.start) (sided (he i) a.end b.end)) (Some (sides (hs i) (he i))) None)

  pub joined : {e : Side} {c : Option Sides} {m : Bool} → e ≡ max_end a.end b.end → c ≡ intersect_of a b → m ≡ (is_some c || touches a b) → cond m (Some (sides First e)) None ≡ join_of a b
  unfolding join_of
  joined {e} {c} he hc hm =
      ap (λ v. cond v (Some (sides First e)) None) hm ∙ (λ i. cond (is_some (hc i) || touches a b) (Some (sides First (he i))) None)

  pub united : {t : Bool} → is_less (range_order a b) ≡ t → cond t (join_of a b) (option_map swap_sides (join_of b a)) ≡ union_of a b
  unfolding union_of
  united h = sym (ap (λ v. cond v (join_of a b) (option_map swap_sides (join_of b a))) h)
