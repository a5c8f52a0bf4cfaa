-- The pair of the greater start and the lesser end is the definition's, and it is given where it is not empty.
use mathlib.Core.Path.{sym, ◌∙◌}
use Rattle.bounds.specs.Ranges.{range_of}
use Rattle.bounds.proofs.Combining.{picked, shown, intersected}
use Rattle.bounds.proofs.comparable_range.ComparableRange.intersect.Goals as goal

pub returns : goal.returns
returns c = let m = picked c.max_start-start.result c.args.self.start c.args.other.start c.args.start_key c.args.other_start_key (c.new-range.ensures.0 ∙ c.pick.ensures) c.pick-3.ensures in
    let n = picked c.min_end-end.result c.args.self.end c.args.other.end c.args.end_key c.args.other_end_key (c.new-range.ensures.1 ∙ c.pick-2.ensures) c.pick-4.ensures in
    c.then_some.ensures ∙ shown _ _ ∙ intersected (range_of c.args.self c.args.start_key.now c.args.end_key.now) (range_of c.args.other c.args.other_start_key.now c.args.other_end_key.now) c.max_start-start.ensures c.min_end-end.ensures m n (sym c.non_empty-non_empty.ensures)
