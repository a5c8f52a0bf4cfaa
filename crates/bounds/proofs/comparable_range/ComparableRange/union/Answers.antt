-- The lesser range is joined with the other, whichever way round they come.
use mathlib.Core.Path.{ap, ◌∙◌}
use Rattle.std.specs.Prelude.{option_map}
use Rattle.keys.proofs.Signs.{on_lt}
use Rattle.bounds.specs.Ranges.{range_of, range_order}
use Rattle.bounds.specs.Sides.{swap_sides}
use Rattle.bounds.proofs.Combining.{turned, united}
use Rattle.bounds.proofs.comparable_range.ComparableRange.union.Goals as goal

pub returns-then-compare-lt0 : goal.returns-then-compare-lt0
returns-then-compare-lt0 c = let o = range_order (range_of c.args.self c.args.start_key.now c.args.end_key.now) (range_of c.args.other c.args.other_start_key.now c.args.other_end_key.now) in
    c.join.ensures ∙ united (range_of c.args.self c.args.start_key.now c.args.end_key.now) (range_of c.args.other c.args.other_start_key.now c.args.other_end_key.now) (on_lt o c.compare.ensures c.if-compare-lt0.true)

pub returns : goal.returns
returns c = let o = range_order (range_of c.args.self c.args.start_key.now c.args.end_key.now) (range_of c.args.other c.args.other_start_key.now c.args.other_end_key.now) in
    turned c.join-2.result c.map.result c.map.ensures.cases
    ∙ ap (option_map swap_sides) c.join-2.ensures
    ∙ united (range_of c.args.self c.args.start_key.now c.args.end_key.now) (range_of c.args.other c.args.other_start_key.now c.args.other_end_key.now) (on_lt o c.compare.ensures c.if-compare-lt0.false)
