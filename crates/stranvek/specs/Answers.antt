-- The answers of the calls as the structs that the host reads.
use Rattle.std.specs.Prelude.{Bool, ℤ, Result, Ok, Err}
use mathlib.Core.Ordering.{Ordering}
use Rattle.keys.specs.Order.{sign}
use Rattle.kinds.specs.declared.kind.Kind.{Kind}
use Rattle.kinds.specs.declared.kind.Kind.TheVariants.{Unbounded}
use Rattle.kinds.specs.Bounds.{bound_tag}
use Rattle.ranges.specs.declared.made.RangeError.{RangeError}
use Rattle.ranges.specs.declared.made.MadeBound.{MadeBound}
use Rattle.ranges.specs.declared.bytes_range.BytesRange.{BytesRange}
use Rattle.ranges.specs.Made.{status}
use Rattle.stranvek.specs.declared.boundary.Compared.{Compared}
use Rattle.stranvek.specs.declared.boundary.Told.{Told}
use Rattle.stranvek.specs.declared.boundary.NewRange.{NewRange}
use Rattle.stranvek.specs.declared.boundary.MadeKey.{MadeKey}
use Rattle.stranvek.specs.Boundary.{key, no_key}

-- "always have status 0"
abbrev pub comparing : ℤ → Compared
comparing z = record { status = 0; order = z }

abbrev pub compared : Ordering → Compared
compared o = comparing (sign o)

abbrev pub told : Bool → Told
told b = record { status = 0; holds = b }

-- "length 0 and unbounded when refused"
abbrev pub refused_range : RangeError → NewRange
refused_range e = record { status = status {A = BytesRange} (Err e); start_kind = bound_tag Unbounded; end_kind = bound_tag Unbounded }

abbrev pub new_range : Result BytesRange RangeError → Kind → Kind → NewRange
new_range (Ok r) a b = record { status = status (Ok r); start_kind = bound_tag a; end_kind = bound_tag b }
new_range (Err e) a b = refused_range e

-- a new range with the kinds that it has itself
abbrev pub ranged : Result BytesRange RangeError → NewRange
ranged (Ok r) = new_range (Ok r) r.inner.start r.inner.end
ranged (Err e) = refused_range e

abbrev pub made_key : Result MadeBound RangeError → MadeKey
made_key (Ok m) = record { status = status (Ok m); key = key m }
made_key (Err e) = record { status = status {A = MadeBound} (Err e); key = no_key }
