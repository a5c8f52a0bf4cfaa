-- The first bytes that differ decide; where none of them does, std's scan.
use mathlib.Core.Path.{refl, sym, ap, ◌∙◌}
use native.Mathlib.Omega.{arith}
use native.Mathlib.Numerals.{add-one}
use Rattle.keys.specs.Order.{sign}
use Rattle.keys.proofs.Library.{next_is, lesser_is, greater_is, first_ends, second_ends, both_end}
use Rattle.keys.proofs.compare.Goals as goal

pub loop-i-init : goal.loop-i-init
loop-i-init c = refl

pub returns-then-a-i : goal.returns-then-a-i
returns-then-a-i c =
    sym (ap sign (c.loop-i.invariant ∙ lesser_is c.args.a.now c.args.b.now c.loop-i.i (omega (arith, c.min-i-end.ensures)) (omega (arith, c.min-i-end.ensures)) (omega arith)))

pub returns-then-b-i-2 : goal.returns-then-b-i-2
returns-then-b-i-2 c =
    sym (ap sign (c.loop-i.invariant ∙ greater_is c.args.a.now c.args.b.now c.loop-i.i (omega (arith, c.min-i-end.ensures)) (omega (arith, c.min-i-end.ensures)) (omega arith)))

pub loop-i-preserved : goal.loop-i-preserved
loop-i-preserved c =
    c.loop-i.invariant
    ∙ rw (add-one c.loop-i.i) (next_is c.args.a.now c.args.b.now c.loop-i.i (omega (arith, c.min-i-end.ensures)) (omega (arith, c.min-i-end.ensures)) (omega arith))

pub returns-then-b-i : goal.returns-then-b-i
returns-then-b-i c =
    sym (ap sign (c.loop-i.invariant ∙ second_ends c.args.a.now c.args.b.now c.loop-i.i (omega (arith, c.min-i-end.ensures)) (omega arith)))

pub returns-then-a-b : goal.returns-then-a-b
returns-then-a-b c = sym (ap sign (c.loop-i.invariant ∙ first_ends c.args.a.now c.args.b.now c.loop-i.i (omega (arith, c.min-i-end.ensures)) (omega (arith, c.min-i-end.ensures))))

pub returns-else-a-b : goal.returns-else-a-b
returns-else-a-b c = sym (ap sign (c.loop-i.invariant ∙ both_end c.args.a.now c.args.b.now c.loop-i.i (omega (arith, c.min-i-end.ensures)) (omega (arith, c.min-i-end.ensures))))
