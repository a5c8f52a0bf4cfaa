-- The lesser of two ends is the one that isn't the greater.
use mathlib.Core.Path.{ap, ◌∙◌}
use Rattle.kinds.specs.Bounds.{bound, end_order}
use Rattle.bounds.specs.Sides.{other_side}
use Rattle.bounds.proofs.Greater.{lesser_side}
use Rattle.bounds.proofs.sides.min_end.Goals as goal

pub returns : goal.returns
returns c = c.other.ensures ∙ ap other_side c.max_end.ensures ∙ lesser_side (end_order (bound c.args.a c.args.a_key.now) (bound c.args.b c.args.b_key.now))
