-- Nothing at all where the place is the same.
use native.Mathlib.Omega.{arith}
use Rattle.moves.proofs.SpliceLaws.{stays}
use Rattle.moves.proofs.shift.Goals as goal

pub returns-else-from-to : goal.returns-else-from-to
returns-else-from-to c = stays c.args.room.now c.args.from c.args.to c.args.n (omega arith)
