-- The first i bytes of the source stand at the place; all others are as they were.
use Rattle.moves.proofs.CopyLaws.{Copied}
use Rattle.moves.proofs.copy_in.Given as goal

abbrev pub invariant-loop-i : goal.invariant-loop-i
invariant-loop-i l = Copied l.initial.room l.at l.src l.room l.i
