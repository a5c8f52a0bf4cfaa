-- What a walk over a bound answers: its kind and where it ends, or that none stands there.
use Rattle.std.specs.Prelude.{ℕ, ◌+◌, ◌-◌, ◌≤◌, ◌≡◌, Option, Some, None, List, length}
use Rattle.kinds.specs.Bounds.{bound}
use Rattle.kinds.specs.declared.kind.Kind.{Kind}
use Rattle.kinds.specs.declared.kind.Kind.TheVariants.{Unbounded, Included, Excluded}
use Rattle.ranges.specs.Made.{key_of}
use Rattle.layout.specs.Offsets.{bound_key_at}
use Rattle.layout.specs.Keys.{bound_form}
use Rattle.layout.specs.Rows.{Fills}
use Rattle.room.specs.Walks.{Missing, between}
use Rattle.room.specs.declared.range.StoredBound.{StoredBound}

-- a bound stands from at up to e, its key behind its tag and its length
pub record BoundEnds (m : ℕ) (s : List ℕ) (at : ℕ) (kind : Kind) (e : ℕ) : Type 0 where
  pub fills : Fills (bound_form m) s at (bound kind (between s (at + bound_key_at) e)) e
  pub far : at + bound_key_at ≤ e
  pub size : length (key_of (bound kind (between s (at + bound_key_at) e))) ≡ e - (at + bound_key_at)

-- how long a key may be that stands with a kind
abbrev pub longest_key : ℕ → Kind → ℕ
longest_key m Unbounded = 0
longest_key m Included = m
longest_key m Excluded = m

-- the two answers of the walk over a bound
abbrev pub BoundIs : ℕ → List ℕ → ℕ → Option StoredBound → Type 0
BoundIs m s at (Some b) = BoundEnds m s at b.kind b.end
BoundIs m s at None = Missing (bound_form m) s at
