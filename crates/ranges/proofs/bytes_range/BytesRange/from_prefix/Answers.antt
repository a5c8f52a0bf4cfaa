-- A prefix's range is its subrange of everything.
use mathlib.Core.Path.{sym, ap, ◌∙◌}
use Rattle.ranges.specs.Making.{made_range}
use Rattle.ranges.proofs.PrefixLaws.{prefix_is_subrange}
use Rattle.ranges.proofs.bytes_range.BytesRange.from_prefix.Goals as goal

pub returns : goal.returns
returns c = c.from_prefix_and_subrange.ensures ∙ ap made_range (sym (prefix_is_subrange c.args.prefix.now))
