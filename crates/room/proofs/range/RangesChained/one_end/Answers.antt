-- A range is two bounds whose pair is not empty.
use mathlib.Core.Path.{sym, ◌∙◌}
use Rattle.room.proofs.RangeLaws.{no_start, no_end, judged, range_empty, range_got}
use Rattle.room.proofs.range.RangesChained.one_end.Goals as goal

pub returns-in_err-start : goal.returns-in_err-start
returns-in_err-start c = rw c.from_residual.ensures (no_start _ c.in_err-start.ensures)

pub returns-in_err-end : goal.returns-in_err-end
returns-in_err-end c = rw c.from_residual-in_err-end.ensures (no_end _ c.in_ok-start.ensures c.in_err-end.ensures)

pub returns-then-not-non_empty : goal.returns-then-not-non_empty
returns-then-not-non_empty c = range_empty _ c.in_ok-start.ensures c.in_ok-end.ensures (judged _ c.in_ok-start.ensures c.in_ok-end.ensures _ _ c.new-range.ensures (sym c.non_empty.ensures ∙ c.if-not-non_empty.true))

pub returns : goal.returns
returns c = range_got _ c.in_ok-start.ensures c.in_ok-end.ensures (judged _ c.in_ok-start.ensures c.in_ok-end.ensures _ _ c.new-range.ensures (sym c.non_empty.ensures ∙ c.if-not-non_empty.false))
