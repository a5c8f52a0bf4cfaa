-- By the field's tag: a bound of that kind, where an unbounded one has no payload.
use mathlib.Core.Bool.{true≢false}
use mathlib.Core.Path.{sym, ◌∙◌}
use Rattle.fields.specs.Forms.{BoundFieldIs}
use Rattle.fields.proofs.Errs.{by_err}
use Rattle.fields.proofs.Bounds.{bounds_cut, bounds_end, bound_here, unbounded_full, tag_unknown}
use Rattle.fields.proofs.bound_at.Goals as goal
use Rattle.fields.proofs.bound_at.Goals.{else-not-bounded-via-then-not-bounded+else-key, else-not-bounded-via-else-not-bounded}

pub returns-in_err-field_at : goal.returns-in_err-field_at
returns-in_err-field_at c = by_err (BoundFieldIs c.args.bytes.now c.args.at) _ c.from_residual.ensures.0 λ e. bounds_cut c.in_err-field_at.ensures

pub returns-in_err-field : goal.returns-in_err-field
returns-in_err-field c =
    by_err (BoundFieldIs c.args.bytes.now c.args.at) _ c.from_residual-in_err-field.ensures.0 λ e. bounds_end (rw c.in_err-field.ensures.ok_part at c.in_ok-field_at.ensures)

pub returns-in_default : goal.returns-in_default
returns-in_default c = tag_unknown (rw c.in_ok-field.ensures.ok_part at c.in_ok-field_at.ensures) c.in_default.ensures.1

pub returns-then-key : goal.returns-then-key
returns-then-key c =
    unbounded_full (rw c.in_ok-field.ensures.ok_part at c.in_ok-field_at.ensures) c.in-Ok.kind c.in-Ok.ensures (sym c.if-not-bounded.ensures) c.if-key.true

pub returns : goal.returns
returns c =
    bound_here (rw c.in_ok-field.ensures.ok_part at c.in_ok-field_at.ensures) c.in-Ok.kind c.in-Ok.ensures
    λ b. elim c.else-not-bounded.branch [ else-not-bounded-via-then-not-bounded+else-key w ↦ w.if-key.false | else-not-bounded-via-else-not-bounded w ↦ absurd (true≢false (w.if-not-bounded.ensures ∙ b)) ]
