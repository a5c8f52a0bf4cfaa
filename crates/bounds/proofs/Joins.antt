-- The union of two ranges: when it is given, which keys lie in it, how far it reaches, and that it is the same either way.
use Prim.Native.Nat.{ℕ}
use mathlib.Core.Path.{◌≡◌, refl, sym, ap, ◌∙◌}
use mathlib.Core.Bool.{Bool, true, false, cond, not, ◌&&◌, ◌||◌, false≢true, or_comm}
use mathlib.Core.List.{List}
use mathlib.Core.Ordering.{Ordering, lt, eq, gt, swap, then}
use Rattle.keys.specs.Order.{order, is_less, is_same, not_more}
use Rattle.keys.proofs.OrderLaws.{less_is, not_more_trans, not_more_swap, less_not_more}
use Rattle.bounds.specs.declared.sides.Side.{Side}
use Rattle.bounds.specs.declared.sides.Side.TheVariants.{First, Second}
use Rattle.bounds.specs.declared.sides.Sides.{Sides}
use Rattle.std.specs.Prelude.{Option, Some, None, is_some, option_map}
use Rattle.kinds.specs.Bounds.{Bound, start_order, end_order, start_admits, end_admits}
use Rattle.bounds.specs.Ranges.{Range, holds, not_empty, taken, touches, range_order, intersect_of, join_of, union_of}
use Rattle.bounds.specs.Sides.{sided, max_end, sides, swap_sides}
use Rattle.kinds.proofs.Cuts.{before, start_cut, end_cut, start_order_lem, end_order_lem, start_admits_lem, end_admits_lem, start_wider, end_wider}
use Rattle.kinds.proofs.BoundOrder.{start_total, end_total, at_itself, by_more, either_way}
use Rattle.bounds.proofs.PairCuts.{not_empty_lem, touching}
use Rattle.bounds.proofs.RangeOrder.{range_total, greater_first, greater_second, lesser_first}
use Rattle.bounds.proofs.Meets.{shared, shared_either, given_by, given_sides, intersect_given}

-- "first range the lesser by start and then end"
abbrev pub first : Range → Range → Range
first a b = cond (is_less (range_order a b)) a b

abbrev pub second : Range → Range → Range
second a b = cond (is_less (range_order a b)) b a

-- a first range's start and the greater end
abbrev pub joint : Range → Range → Range
joint f g = taken First (max_end f.end g.end) f g

-- "they intersect or touch"
abbrev pub meets : Range → Range → Bool
meets f g = is_some (intersect_of f g) || touches f g

swapped_given : (c : Option Sides) → is_some (option_map swap_sides c) ≡ is_some c
swapped_given (Some p) = refl
swapped_given None = refl

swapped_sides : (a b : Range) (t : Bool) (m s e : Side) → option_map swap_sides (cond t (Some (sides First m)) None) ≡ Some (sides s e) → taken s e a b ≡ taken First m b a
swapped_sides a b true First s e h = given_sides a b true Second Second s e h
swapped_sides a b true Second s e h = given_sides a b true Second First s e h
swapped_sides a b false m s e h = cc

join_given : (f g : Range) → is_some (join_of f g) ≡ meets f g
unfolding join_of
join_given f g = given_by (meets f g) First (max_end f.end g.end)

module _ (a b : Range) where
  union_is : (s e : Side) → union_of a b ≡ Some (sides s e) → taken s e a b ≡ joint (first a b) (second a b)
  unfolding union_of join_of
  union_is s e = go (is_less (range_order a b))
    where
      go : (t : Bool) → cond t (join_of a b) (option_map swap_sides (join_of b a)) ≡ Some (sides s e) → taken s e a b ≡ joint (cond t a b) (cond t b a)
      go true h = given_sides a b (meets a b) First (max_end a.end b.end) s e h
      go false h = swapped_sides a b (meets b a) (max_end b.end a.end) s e h

  union_meets : is_some (union_of a b) ≡ meets (first a b) (second a b)
  unfolding union_of
  union_meets = go (is_less (range_order a b))
    where
      go : (t : Bool) → is_some (cond t (join_of a b) (option_map swap_sides (join_of b a))) ≡ meets (cond t a b) (cond t b a)
      go true = join_given a b
      go false = swapped_given (join_of b a) ∙ join_given b a

  first_starts : not_more (start_order (first a b).start (second a b).start) ≡ true
  unfolding then swap
  first_starts = go (is_less (range_order a b)) refl
    where
      less : (o p : Ordering) → is_less (then o p) ≡ true → not_more o ≡ true
      less lt p e = refl
      less eq p e = refl
      less gt p e = e

      more : (o p : Ordering) → is_less (then o p) ≡ false → not_more (swap o) ≡ true
      more lt p e = sym e
      more eq p e = refl
      more gt p e = refl

      go : (t : Bool) → is_less (range_order a b) ≡ t → not_more (start_order (cond t a b).start (cond t b a).start) ≡ true
      go true e = less (start_order a.start b.start) (end_order a.end b.end) e
      go false e = ap not_more (start_total.swapped a.start b.start) ∙ more (start_order a.start b.start) (end_order a.end b.end) e

-- the first range reaches the second: no key lies between its end and the other's start
module _ (f g : Range) where
  abbrev Reaches : Type 0
  Reaches = not_more (order (start_cut g.start) (end_cut f.end)) ≡ true

  intersect_reaches : not_empty (shared f g) ≡ true → Reaches
  intersect_reaches h =
      let s = start_cut (shared f g).start in
      let e = end_cut (shared f g).end in
      let before_s = ap not_more (sym (start_order_lem g.start (shared f g).start)) ∙ greater_second start_total f.start g.start in
      let after_e = ap not_more (sym (end_order_lem (shared f g).end f.end)) ∙ lesser_first end_total f.end g.end in
      let inside = less_not_more s e (end_cut f.end) (sym (not_empty_lem (shared f g).start (shared f g).end) ∙ h) after_e in
      not_more_trans (start_cut g.start) s (end_cut f.end) before_s (ap not_more (less_is (order s (end_cut f.end)) inside))

  touch_reaches : touches f g ≡ true → Reaches
  touch_reaches h = not_more_swap (end_cut f.end) (start_cut g.start) ∙ go (order (end_cut f.end) (start_cut g.start)) (sym (touching f.end g.start) ∙ h)
    where
      go : (o : Ordering) → is_same o ≡ true → not (is_less o) ≡ true
      go lt e = e
      go eq e = refl
      go gt e = refl

  reaches : meets f g ≡ true → Reaches
  reaches = go (is_some (intersect_of f g)) refl
    where
      go : (t : Bool) → is_some (intersect_of f g) ≡ t → (t || touches f g) ≡ true → Reaches
      go true e d = intersect_reaches (sym (intersect_given f g) ∙ e)
      go false e d = touch_reaches d

or_left : (p q : Bool) → (q ≡ true → p ≡ true) → p ≡ (p || q)
or_left true q h = refl
or_left false true h = h refl
or_left false false h = refl

or_right : (p q : Bool) → (p ≡ true → q ≡ true) → q ≡ (p || q)
or_right true q h = h refl
or_right false q h = refl

-- p, q: after the first's and the second's start; u, v: before their ends
spans : (p q u v : Bool) → (q ≡ true → p ≡ true) → (u ≡ false → q ≡ true) → (p && (u || v)) ≡ (p && u || q && v)
spans true true u v h j = refl
spans true false true v h j = refl
spans true false false v h j = absurd (false≢true (j refl))
spans false true u v h j = absurd (false≢true (h refl))
spans false false u v h j = refl

module _ (k : List ℕ) where
  max_end_admits : (a b : Bound) → end_admits (sided (max_end a b) a b) k ≡ (end_admits a k || end_admits b k)
  max_end_admits a b =
      by_more
      end_total
      a
      b
      (λ t. end_admits (sided (cond t First Second) a b) k ≡ (end_admits a k || end_admits b k))
      (λ l. or_left (end_admits a k) (end_admits b k) (end_wider k b a l))
      (λ l. or_right (end_admits a k) (end_admits b k) (end_wider k a b l))

  no_gap : (f g : Range) → Reaches f g → end_admits f.end k ≡ false → start_admits g.start k ≡ true
  no_gap f g h e =
      let past = not_more_swap (before k) (end_cut f.end) ∙ ap not (sym (end_admits_lem f.end k) ∙ e) in
      start_admits_lem g.start k ∙ not_more_trans (start_cut g.start) (end_cut f.end) (before k) h past

  joint_holds : (f g : Range) → not_more (start_order f.start g.start) ≡ true → Reaches f g → holds (joint f g) k ≡ (holds f k || holds g k)
  joint_holds f g h j =
      ap (λ e. start_admits f.start k && e) (max_end_admits f.end g.end)
      ∙ spans (start_admits f.start k) (start_admits g.start k) (end_admits f.end k) (end_admits g.end k) (start_wider k f.start g.start h) (no_gap f g j)

module _ (a b : Range) where
  both_held : (t : Bool) (k : List ℕ) → (holds (cond t a b) k || holds (cond t b a) k) ≡ (holds a k || holds b k)
  both_held true k = refl
  both_held false k = or_comm (holds b k) (holds a k)

  -- "A key lies in it exactly when it lies in either."
  pub union_holds : (s e : Side) (k : List ℕ) → union_of a b ≡ Some (sides s e) → holds (taken s e a b) k ≡ (holds a k || holds b k)
  union_holds s e k h =
      ap (λ r. holds r k) (union_is a b s e h)
      ∙ joint_holds k (first a b) (second a b) (first_starts a b) (reaches (first a b) (second a b) (sym (union_meets a b) ∙ ap is_some h))
      ∙ both_held (is_less (range_order a b)) k

  -- "given exactly if they intersect or touch"
  pub union_given : is_some (union_of a b) ≡ (is_some (intersect_of a b) || touches (first a b) (second a b))
  union_given = union_meets a b ∙ ap (λ t. t || touches (first a b) (second a b)) (go (is_less (range_order a b)))
    where
      go : (t : Bool) → is_some (intersect_of (cond t a b) (cond t b a)) ≡ is_some (intersect_of a b)
      go true = refl
      go false = intersect_given b a ∙ ap not_empty (shared_either b a) ∙ sym (intersect_given a b)

-- a range's bounds stand at another's or outside
pub record Covers (r a : Range) : Type 0 where
  pub start_before : not_more (start_order r.start a.start) ≡ true
  pub end_after : not_more (end_order a.end r.end) ≡ true

covers_first : (f g : Range) → Covers (joint f g) f
covers_first f g =
    record { start_before = at_itself start_total f.start; end_after = greater_first end_total f.end g.end }

covers_second : (f g : Range) → not_more (start_order f.start g.start) ≡ true → Covers (joint f g) g
covers_second f g h = record { start_before = h; end_after = greater_second end_total f.end g.end }

module _ (a b : Range) where
  pub union_bounds : (s e : Side) → union_of a b ≡ Some (sides s e) → Covers (taken s e a b) a × Covers (taken s e a b) b
  union_bounds s e h = rw (union_is a b s e h) (go (is_less (range_order a b)) (first_starts a b))
    where
      go : (t : Bool) → not_more (start_order (cond t a b).start (cond t b a).start) ≡ true → Covers (joint (cond t a b) (cond t b a)) a × Covers (joint (cond t a b) (cond t b a)) b
      go true l = (covers_first a b, covers_second a b l)
      go false l = (covers_second b a l, covers_first b a)

  firsts : first a b ≡ first b a
  firsts = either_way range_total a b (λ o x y. cond (is_less o) x y) (λ x y. refl)

  seconds : second a b ≡ second b a
  seconds = either_way range_total a b (λ o x y. cond (is_less o) y x) (λ x y. refl)

  pub union_either_way : (s e s' e' : Side) → union_of a b ≡ Some (sides s e) → union_of b a ≡ Some (sides s' e') → taken s e a b ≡ taken s' e' b a
  union_either_way s e s' e' h k = union_is a b s e h ∙ (λ i. joint (firsts i) (seconds i)) ∙ sym (union_is b a s' e' k)

  pub union_given_either_way : is_some (union_of a b) ≡ is_some (union_of b a)
  union_given_either_way = union_meets a b ∙ (λ i. meets (firsts i) (seconds i)) ∙ sym (union_meets b a)
