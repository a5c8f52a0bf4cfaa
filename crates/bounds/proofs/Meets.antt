-- Which keys lie in an intersection, and in a range that is empty by the rule.
use Prim.Native.Nat.{ℕ}
use mathlib.Core.Path.{◌≡◌, refl, sym, ap, ◌∙◌}
use mathlib.Core.Bool.{Bool, true, false, cond, ◌&&◌}
use mathlib.Core.List.{List}
use Rattle.keys.specs.Order.{is_more}
use Rattle.keys.proofs.OrderLaws.{not_more_less}
use Rattle.bounds.specs.declared.sides.Side.{Side}
use Rattle.bounds.specs.declared.sides.Side.TheVariants.{First, Second}
use Rattle.std.specs.Prelude.{Some, None, is_some}
use Rattle.std.proofs.lemmas.Option.{same_Some}
use Rattle.kinds.specs.Bounds.{Bound, start_admits, end_admits}
use Rattle.bounds.specs.Ranges.{Range, range, holds, not_empty, taken, intersect_of}
use Rattle.bounds.specs.Sides.{sided, max_start, min_end, sides}
use Rattle.kinds.proofs.Cuts.{before, start_cut, end_cut, start_admits_lem, end_admits_lem, start_wider, end_wider}
use Rattle.kinds.proofs.BoundOrder.{start_total, end_total, by_more, either_way}
use Rattle.bounds.proofs.PairCuts.{not_empty_lem}

and_left : (p q : Bool) → (p ≡ true → q ≡ true) → p ≡ (p && q)
and_left true q h = sym (h refl)
and_left false q h = refl

and_right : (p q : Bool) → (q ≡ true → p ≡ true) → q ≡ (p && q)
and_right true q h = refl
and_right false true h = sym (h refl)
and_right false false h = refl

regroup : (p q u v : Bool) → ((p && q) && (u && v)) ≡ ((p && u) && (q && v))
regroup true true u v = refl
regroup true false true v = refl
regroup true false false v = refl
regroup false q u v = refl

module _ (k : List ℕ) where
  max_start_admits : (a b : Bound) → start_admits (sided (max_start a b) a b) k ≡ (start_admits a k && start_admits b k)
  max_start_admits a b =
      by_more
      start_total
      a
      b
      (λ t. start_admits (sided (cond t First Second) a b) k ≡ (start_admits a k && start_admits b k))
      (λ l. and_left (start_admits a k) (start_admits b k) (start_wider k b a l))
      (λ l. and_right (start_admits a k) (start_admits b k) (start_wider k a b l))

  min_end_admits : (a b : Bound) → end_admits (sided (min_end a b) a b) k ≡ (end_admits a k && end_admits b k)
  min_end_admits a b =
      by_more
      end_total
      a
      b
      (λ t. end_admits (sided (cond t Second First) a b) k ≡ (end_admits a k && end_admits b k))
      (λ l. and_right (end_admits a k) (end_admits b k) (end_wider k b a l))
      (λ l. and_left (end_admits a k) (end_admits b k) (end_wider k a b l))

-- the greater start and the lesser end
abbrev pub shared : Range → Range → Range
shared a b = taken (max_start a.start b.start) (min_end a.end b.end) a b

pub shared_either : (a b : Range) → shared a b ≡ shared b a
shared_either a b =
    let p = either_way start_total a.start b.start (λ o x y. sided (cond (is_more o) First Second) x y) (λ x y. refl) in
    let q = either_way end_total a.end b.end (λ o x y. sided (cond (is_more o) Second First) x y) (λ x y. refl) in
    λ i. range (p i) (q i)

pub given_by : (t : Bool) (s e : Side) → is_some (cond t (Some (sides s e)) None) ≡ t
given_by true s e = refl
given_by false s e = refl

pub intersect_given : (a b : Range) → is_some (intersect_of a b) ≡ not_empty (shared a b)
unfolding intersect_of
intersect_given a b = given_by (not_empty (shared a b)) (max_start a.start b.start) (min_end a.end b.end)

shared_holds : (a b : Range) (k : List ℕ) → holds (shared a b) k ≡ (holds a k && holds b k)
shared_holds a b k =
    (λ i. max_start_admits k a.start b.start i && min_end_admits k a.end b.end i)
    ∙ regroup (start_admits a.start k) (start_admits b.start k) (end_admits a.end k) (end_admits b.end k)

module _ (a b : Range) where
  pub given_sides : (t : Bool) (s e s' e' : Side) → cond t (Some (sides s e)) None ≡ Some (sides s' e') → taken s' e' a b ≡ taken s e a b
  given_sides true s e s' e' h =
      let p = sym (same_Some (sides s e) (sides s' e') h) in
      λ i. taken (p i).start (p i).end a b
  given_sides false s e s' e' h = cc

  pub intersect_holds : (s e : Side) (k : List ℕ) → intersect_of a b ≡ Some (sides s e) → holds (taken s e a b) k ≡ (holds a k && holds b k)
  unfolding intersect_of
  intersect_holds s e k h = ap (λ r. holds r k) (given_sides (not_empty (shared a b)) _ _ s e h) ∙ shared_holds a b k

pub empty_holds_nothing : (r : Range) (k : List ℕ) → not_empty r ≡ false → holds r k ≡ false
empty_holds_nothing r k h = go (start_admits r.start k) refl (end_admits r.end k) refl
  where
    go : (p : Bool) → start_admits r.start k ≡ p → (q : Bool) → end_admits r.end k ≡ q → (p && q) ≡ false
    go true d true e =
        sym (not_empty_lem r.start r.end ∙ not_more_less (start_cut r.start) (before k) (end_cut r.end) (sym (start_admits_lem r.start k) ∙ d) (sym (end_admits_lem r.end k) ∙ e)) ∙ h
    go true d false e = refl
    go false d q e = refl

pub intersect_nothing : (a b : Range) (k : List ℕ) → intersect_of a b ≡ None → (holds a k && holds b k) ≡ false
unfolding intersect_of
intersect_nothing a b k h = sym (shared_holds a b k) ∙ empty_holds_nothing (shared a b) k (go (not_empty (shared a b)) _ _ h)
  where
    go : (t : Bool) (s e : Side) → cond t (Some (sides s e)) None ≡ None → t ≡ false
    go true s e d = cc
    go false s e d = refl
