-- The tail is shifted to where it will stand, and the source copied into the gap.
use native.Mathlib.Omega.{arith}
use Rattle.moves.proofs.SpliceLaws.{spliced}
use Rattle.moves.proofs.splice.Goals as goal

pub returns : goal.returns
returns c = spliced _ _ _ _ _ (omega arith) (omega arith) (omega arith) _ _ c.shift.ensures c.copy_in.ensures
