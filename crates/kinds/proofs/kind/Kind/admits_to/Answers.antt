-- The two keys stand the other way round.
use mathlib.Core.Path.{◌∙◌}
use Rattle.kinds.proofs.Admits.{end_as_start}
use Rattle.kinds.proofs.kind.Kind.admits_to.Goals as goal

pub returns : goal.returns
returns c = c.admits.ensures ∙ end_as_start c.args.self c.args.key.now c.args.bound_key.now
