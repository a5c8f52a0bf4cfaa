-- The start is the bound at 0, the end the one behind it, and nothing follows.
use Rattle.fields.specs.Forms.{BoundsAre}
use Rattle.fields.proofs.Errs.{by_err}
use Rattle.fields.proofs.Bounds.{start_lacks, end_lacks, more_left, bounds_here}
use Rattle.fields.proofs.read_bounds.Goals as goal

pub returns-in_err-start : goal.returns-in_err-start
returns-in_err-start c = by_err (BoundsAre c.args.bytes.now) _ c.from_residual.ensures.0 λ e. start_lacks _ c.in_err-start.ensures

pub returns-in_err-end : goal.returns-in_err-end
returns-in_err-end c = by_err (BoundsAre c.args.bytes.now) _ c.from_residual-in_err-end.ensures.0 λ e. end_lacks _ _ _ _ _ c.in_ok-start.ensures c.in_err-end.ensures

pub returns-then-end-bytes : goal.returns-then-end-bytes
returns-then-end-bytes c = more_left _ _ _ _ _ c.in_ok-start.ensures _ _ _ _ c.in_ok-end.ensures c.if-end-bytes.true

pub returns : goal.returns
returns c = bounds_here _ _ c.in_ok-start.ensures c.in_ok-end.ensures c.if-end-bytes.false
