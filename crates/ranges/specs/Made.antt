-- Making keys: document 01's statuses for it, and how a made key comes back.
use Rattle.std.specs.Prelude.{ℕ, ◌-◌, ◌≤◌, ◌≡◌, Bool, false, cond, List, [], ◌++◌, ltb, length, replicate, Result, Ok, Err}
use Rattle.keys.specs.Limit.{key_limit}
use Rattle.kinds.specs.declared.kind.Kind.{Kind}
use Rattle.kinds.specs.declared.kind.Kind.TheVariants.{Unbounded, Included, Excluded}
use Rattle.kinds.specs.Bounds.{Bound, unbounded, included, excluded}
use Rattle.ranges.specs.declared.made.RangeError.{RangeError}
use Rattle.ranges.specs.declared.made.RangeError.TheVariants.{LongKey, EmptyRange}
use Rattle.ranges.specs.declared.made.MadeBound.{MadeBound}

-- document 01's number of each answer
abbrev pub refusal_status : RangeError → ℕ
refusal_status LongKey = 4
refusal_status EmptyRange = 5

abbrev pub status : {A : Type 0} → Result A RangeError → ℕ
status (Ok a) = 0
status (Err e) = refusal_status e

abbrev pub too_long : Bound → Bool
too_long unbounded = false
too_long (included k) = ltb key_limit (length k)
too_long (excluded k) = ltb key_limit (length k)

abbrev pub kind_of : Bound → Kind
kind_of unbounded = Unbounded
kind_of (included k) = Included
kind_of (excluded k) = Excluded

abbrev pub key_of : Bound → List ℕ
key_of unbounded = []
key_of (included k) = k
key_of (excluded k) = k

-- "A key that must be made (increment, joined) comes back by value with its length, zeros after it; length 0 and
-- unbounded when refused or none."
unfoldable pub padded : List ℕ → List ℕ
padded k = k ++ replicate (key_limit - length k) 0

unfoldable pub made_of : Bound → MadeBound
made_of b = record { kind = kind_of b; len = length (key_of b); bytes = padded (key_of b) }

-- a made bound's array has its whole length, and its key lies in it
pub record Sized (m : MadeBound) : Type 0 where
  pub len : m.len ≤ key_limit
  pub bytes : length m.bytes ≡ key_limit

abbrev pub made_bound : Bound → Result MadeBound RangeError
made_bound b = cond (too_long b) (Err LongKey) (Ok (made_of b))
