-- The library's comparison is the definition's, and its cases count from -1.
use mathlib.Core.Path.{ap, ◌∙◌}
use Rattle.keys.specs.Order.{sign}
use Rattle.keys.proofs.Library.{as_order, number_is, order_is}
use Rattle.keys.proofs.compare_on.Goals as goal

pub returns : goal.returns
returns c = number_is c.cmp.result ∙ ap sign (ap as_order c.cmp.ensures ∙ order_is c.args.a.now c.args.b.now)
