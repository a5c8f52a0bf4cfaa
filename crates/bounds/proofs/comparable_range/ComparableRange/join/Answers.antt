-- Two ranges are joined where they share a key or touch, up to the greater end.
use mathlib.Core.Path.{◌≡◌, sym, ◌∙◌}
use mathlib.Core.Bool.{◌||◌}
use Rattle.std.specs.Prelude.{is_some}
use Rattle.bounds.specs.Ranges.{range_of, touches}
use Rattle.bounds.proofs.Combining.{shown, joined}
use Rattle.bounds.proofs.comparable_range.ComparableRange.join.Goals.{then-is_some, else-is_some}
use Rattle.bounds.proofs.comparable_range.ComparableRange.join.Goals as goal

pub returns : goal.returns
returns c = let u = range_of c.args.self c.args.start_key.now c.args.end_key.now in
    let v = range_of c.args.other c.args.other_start_key.now c.args.other_end_key.now in
    -- the answer of the two tests is that they intersect or touch
    let meets : c.if-is_some.meets ≡ (is_some c.intersect.result || touches u v) = elim c.if-is_some.branch [
      | then-is_some w ↦ w.meets-is ∙ rw (sym c.is_some.ensures ∙ w.if-is_some.true) w.if-is_some.true
      | else-is_some w ↦ w.meets-is ∙ w.are_adjacent-meets.ensures ∙ rw (sym c.is_some.ensures ∙ w.if-is_some.false)
    ] in
    c.then_some.ensures ∙ shown _ _ ∙ joined u v c.max_end-end.ensures c.intersect.ensures meets
