-- What crosses the boundary: numbers for kinds and sides, and what is made of them as the structs that the host reads.
use Rattle.std.specs.Prelude.{ℕ, true, false, cond, List, eqb, Option, Some, None, Result, Ok, Err}
use Rattle.kinds.specs.declared.kind.Kind.{Kind}
use Rattle.kinds.specs.declared.kind.Kind.TheVariants.{Unbounded, Included, Excluded}
use Rattle.bounds.specs.declared.sides.Side.{Side}
use Rattle.bounds.specs.declared.sides.Side.TheVariants.{First, Second}
use Rattle.bounds.specs.declared.sides.Sides.{Sides}
use Rattle.bounds.specs.declared.comparable_range.ComparableRange.{ComparableRange}
use Rattle.kinds.specs.Bounds.{Bound, bound, bound_tag, unbounded}
use Rattle.bounds.specs.Ranges.{Range, range}
use Rattle.bounds.specs.Sides.{sided}
use Rattle.ranges.specs.declared.made.MadeBound.{MadeBound}
use Rattle.ranges.specs.declared.bytes_range.MadeRange.{MadeRange}
use Rattle.ranges.specs.declared.made.RangeError.{RangeError}
use Rattle.ranges.specs.Made.{status, made_of}
use Rattle.stranvek.specs.declared.boundary.Pair.{Pair}
use Rattle.stranvek.specs.declared.boundary.Key.{Key}
use Rattle.stranvek.specs.declared.boundary.MadeKeys.{MadeKeys}

-- a kind's number is its tag; a number that names no kind is the widest one
abbrev pub kind_at : ℕ → Kind
kind_at n = cond (eqb n (bound_tag Included)) Included (cond (eqb n (bound_tag Excluded)) Excluded Unbounded)

abbrev pub kinds_at : ℕ → ℕ → ComparableRange
kinds_at s e = record { start = kind_at s; end = kind_at e }

abbrev pub bound_at : ℕ → List ℕ → Bound
bound_at n key = bound (kind_at n) key

abbrev pub range_at : ℕ → List ℕ → ℕ → List ℕ → Range
range_at s startKey e endKey = range (bound_at s startKey) (bound_at e endKey)

abbrev pub side_number : Side → ℕ
side_number First = 0
side_number Second = 1

-- a pair by the side that each of its bounds comes from; nothing is unbounded, from the first
abbrev pub paired : Option Sides → Kind → Kind → Kind → Kind → Pair
paired (Some p) a b c d =
    record {
      status = 0;
      given = true;
      start_kind = bound_tag (sided p.start a b);
      start_side = side_number p.start;
      end_kind = bound_tag (sided p.end c d);
      end_side = side_number p.end;
    }
paired None a b c d =
    record { status = 0; given = false; start_kind = bound_tag Unbounded; start_side = 0; end_kind = bound_tag Unbounded; end_side = 0 }

abbrev pub key : MadeBound → Key
key m = record { kind = bound_tag m.kind; len = m.len; bytes = m.bytes }

-- "length 0 and unbounded when refused or none"
abbrev pub no_key : Key
no_key = key (made_of unbounded)

abbrev pub made_keys : Result MadeRange RangeError → MadeKeys
made_keys (Ok m) = record { status = status (Ok m); start = key m.start; end = key m.end }
made_keys (Err e) = record { status = status {A = MadeRange} (Err e); start = no_key; end = no_key }
