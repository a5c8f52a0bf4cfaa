-- Two keys are equal where their order says so.
use mathlib.Core.Path.{◌∙◌}
use Rattle.keys.proofs.Library.{same_is}
use Rattle.keys.proofs.equal.Goals as goal

pub returns : goal.returns
returns c = c.eq.ensures ∙ same_is c.args.a.now c.args.b.now
