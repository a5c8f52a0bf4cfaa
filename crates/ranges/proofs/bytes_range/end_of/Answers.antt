-- A bounded end is joined to the prefix; an open one is the prefix's increment.
use mathlib.Core.Path.{sym, ap, ◌∙◌}
use native.Mathlib.Omega.{arith}
use Rattle.std.specs.Prelude.{Ok}
use Rattle.ranges.specs.Made.{made_bound}
use Rattle.ranges.proofs.SubrangeMaking.{end_bounded, end_open}
use Rattle.ranges.proofs.bytes_range.end_of.Goals as goal

pub returns-then-bounded : goal.returns-then-bounded
returns-then-bounded c = c.joined.ensures ∙ ap made_bound (end_bounded c.args.prefix.now c.args.suffix.now c.args.end (sym c.bounded.ensures ∙ c.if-bounded.true))

pub returns : goal.returns
returns c = ap Ok c.increment.ensures ∙ end_open c.args.prefix.now c.args.suffix.now c.args.end (sym c.bounded.ensures ∙ c.if-bounded.false) (omega arith)
