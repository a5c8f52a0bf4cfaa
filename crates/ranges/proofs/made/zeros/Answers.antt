-- The padding of no bytes is all zeros.
use mathlib.Core.Path.{refl}
use Rattle.ranges.specs.Made.{padded}
use Rattle.ranges.proofs.made.zeros.Goals as goal

pub returns : goal.returns
unfolding padded
returns c = refl
