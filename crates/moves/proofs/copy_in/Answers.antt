-- The first i bytes of the source stand at the place; all others are as they were.
use native.Mathlib.Omega.{arith}
use Rattle.moves.proofs.CopyLaws.{copy_start, copy_next, copy_end}
use Rattle.moves.proofs.copy_in.Goals as goal

pub loop-i-init : goal.loop-i-init
loop-i-init c = copy_start

pub loop-i-preserved : goal.loop-i-preserved
loop-i-preserved c = copy_next c.loop-i.invariant (omega arith) (omega arith)

pub returns : goal.returns
returns c = copy_end c.loop-i.invariant (omega arith)
