-- The greater by the starts' order.
use Rattle.kinds.specs.Bounds.{bound, start_order}
use Rattle.bounds.proofs.Greater.{greater_side}
use Rattle.bounds.proofs.sides.max_start.Goals as goal

pub returns : goal.returns
returns c = greater_side (start_order (bound c.args.a c.args.a_key.now) (bound c.args.b c.args.b_key.now)) c.compare_start.ensures c.greater.ensures
