-- Pairs of bounds: membership, emptiness, intersection and union, in document 01's words.
use Rattle.std.specs.Prelude.{ℕ, Bool, true, false, cond, ◌&&◌, ◌||◌, List, Option, Some, None, is_some, option_map}
use mathlib.Core.Ordering.{Ordering, then}
use Rattle.keys.specs.Order.{order, is_less, is_same, not_more}
use Rattle.bounds.specs.declared.comparable_range.ComparableRange.{ComparableRange}
use Rattle.bounds.specs.declared.sides.Side.{Side}
use Rattle.bounds.specs.declared.sides.Side.TheVariants.{First}
use Rattle.bounds.specs.declared.sides.Sides.{Sides}
use Rattle.kinds.specs.Bounds.{Bound, unbounded, included, excluded, bound, start_order, end_order, start_admits, end_admits}
use Rattle.bounds.specs.Sides.{sided, max_start, min_end, max_end, sides, swap_sides}

pub record Range : Type 0 where
  pub start : Bound
  pub end : Bound

abbrev pub range : Bound → Bound → Range
range s e = record { start = s; end = e }

-- the pair that a struct of kinds makes with the keys beside it
abbrev pub range_of : ComparableRange → List ℕ → List ℕ → Range
range_of r s e = range (bound r.start s) (bound r.end e)

-- "the whole key space"
abbrev pub everything : Range
everything = range unbounded unbounded

-- "A key lies in a range when it meets both bounds."
abbrev pub holds : Range → List ℕ → Bool
holds r k = start_admits r.start k && end_admits r.end k

-- "if either bound is unbounded, not empty; included a to included b is empty when a > b; each other pair is empty unless
-- a < b"
abbrev pub not_empty_pair : Bound → Bound → Bool
not_empty_pair unbounded e = true
not_empty_pair (included a) unbounded = true
not_empty_pair (excluded a) unbounded = true
not_empty_pair (included a) (included b) = not_more (order a b)
not_empty_pair (included a) (excluded b) = is_less (order a b)
not_empty_pair (excluded a) (included b) = is_less (order a b)
not_empty_pair (excluded a) (excluded b) = is_less (order a b)

abbrev pub not_empty : Range → Bool
not_empty r = not_empty_pair r.start r.end

-- the pair with the start of one side and the end of one side
abbrev pub taken : Side → Side → Range → Range → Range
taken s e a b = range (sided s a.start b.start) (sided e a.end b.end)

-- "Intersect takes the greater start and lesser end, and answers nothing if that pair is empty."
unfoldable pub intersect_of : Range → Range → Option Sides
intersect_of a b =
    let s = max_start a.start b.start in
    let e = min_end a.end b.end in
    cond (not_empty (taken s e a b)) (Some (sides s e)) None

-- "They touch when the first's end and the second's start hold equal keys, one included and one excluded."
abbrev pub touches_pair : Bound → Bound → Bool
touches_pair unbounded s = false
touches_pair (included a) unbounded = false
touches_pair (excluded a) unbounded = false
touches_pair (included a) (included b) = false
touches_pair (excluded a) (excluded b) = false
touches_pair (included a) (excluded b) = is_same (order a b)
touches_pair (excluded a) (included b) = is_same (order a b)

abbrev pub touches : Range → Range → Bool
touches first second = touches_pair first.end second.start

-- "first range the lesser by start and then end"
abbrev pub range_order : Range → Range → Ordering
range_order a b = then (start_order a.start b.start) (end_order a.end b.end)

-- "given exactly if they intersect or touch": the first's start and the greater end
unfoldable pub join_of : Range → Range → Option Sides
join_of first second =
    cond
    (is_some (intersect_of first second) || touches first second)
    (Some (sides First (max_end first.end second.end)))
    None

-- "Union, first range the lesser by start and then end"
unfoldable pub union_of : Range → Range → Option Sides
union_of a b = cond (is_less (range_order a b)) (join_of a b) (option_map swap_sides (join_of b a))

-- "included k to included k answers k, every other range nothing"
abbrev pub is_point_pair : Bound → Bound → Bool
is_point_pair unbounded e = false
is_point_pair (included a) unbounded = false
is_point_pair (included a) (included b) = is_same (order a b)
is_point_pair (included a) (excluded b) = false
is_point_pair (excluded a) e = false

abbrev pub is_point : Range → Bool
is_point r = is_point_pair r.start r.end
