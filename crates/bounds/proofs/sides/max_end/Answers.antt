-- The greater by the ends' order.
use Rattle.kinds.specs.Bounds.{bound, end_order}
use Rattle.bounds.proofs.Greater.{greater_side}
use Rattle.bounds.proofs.sides.max_end.Goals as goal

pub returns : goal.returns
returns c = greater_side (end_order (bound c.args.a c.args.a_key.now) (bound c.args.b c.args.b_key.now)) c.compare_end.ensures c.greater.ensures
