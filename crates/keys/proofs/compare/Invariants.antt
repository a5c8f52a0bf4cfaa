-- Before the place that is looked at the two agree, so what stands from there on decides.
use mathlib.Core.Path.{◌≡◌}
use lib.ListN.{drop}
use Rattle.keys.specs.Order.{order}
use Rattle.keys.proofs.compare.Given as goal

abbrev pub invariant-loop-i : goal.invariant-loop-i
invariant-loop-i l = order l.a l.b ≡ order (drop l.i l.a) (drop l.i l.b)
