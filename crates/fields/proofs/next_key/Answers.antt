-- A field with a key's tag is a key; another field or a cut one breaks the list.
use Rattle.fields.specs.Forms.{NextIs}
use Rattle.fields.proofs.Errs.{by_err}
use Rattle.fields.proofs.Keys.{keys_cut, key_here, key_broken}
use Rattle.fields.proofs.next_key.Goals as goal

pub returns-in_err-field : goal.returns-in_err-field
returns-in_err-field c = by_err (NextIs c.args.list.now c.args.at) _ c.from_residual.ensures.0 λ e. keys_cut c.in_err-field.ensures

pub returns-then-field-ne-KEY : goal.returns-then-field-ne-KEY
returns-then-field-ne-KEY c = key_broken (rw c.in-Some.is at c.in_ok-field.ensures) c.if-field-ne-KEY.true

pub returns : goal.returns
returns c = key_here (rw c.in-Some.is at c.in_ok-field.ensures) c.if-field-ne-KEY.false
