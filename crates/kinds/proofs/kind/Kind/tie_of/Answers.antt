-- An end's tie is negated, and its sign fits a byte.
use Rattle.kinds.specs.Bounds.{tie}
use Rattle.kinds.proofs.Ties.{negated_sign}
use Rattle.kinds.proofs.kind.Kind.tie_of.Goals as goal

pub returns-else-start : goal.returns-else-start
returns-else-start c = rw (c.tie-tie.ensures, c.if-start.false) (negated_sign (tie c.args.self c.args.other))
