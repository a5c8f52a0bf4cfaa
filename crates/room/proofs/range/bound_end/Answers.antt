-- A bound is a tag that names a kind and a key as long as one of that kind may be.
use mathlib.Core.Path.{sym, subst, ◌∙◌}
use native.Mathlib.Omega.{arith}
use Rattle.kinds.specs.Bounds.{NoKind}
use Rattle.room.proofs.RangeLaws.{bound_short, tag_of, tag_of_none, tag_unknown, key_missing, key_behind}
use Rattle.room.proofs.range.bound_end.Goals as goal

pub returns-in_err-get : goal.returns-in_err-get
returns-in_err-get c = rw c.from_residual.ensures (bound_short _ _ _ (omega (arith, c.in_err-get.ensures.lookup.3)))

pub returns-in_err-kind : goal.returns-in_err-kind
returns-in_err-kind c =
    let h = c.in_ok-get.ensures.lookup.3 in
    rw c.from_residual-in_err-kind.ensures (tag_unknown _ _ _ (omega (arith, h.0)) c.type_inv.room (subst NoKind (h.1 0) (tag_of_none _ c.try_from.ensures (sym c.ok.ensures.value ∙ c.in_err-kind.was))))

pub returns-in_err-key : goal.returns-in_err-key
returns-in_err-key c =
    let h = c.in_ok-get.ensures.lookup.3 in
    rw c.from_residual-in_err-key.ensures (
    key_missing _ _ _ (omega (arith, h.0)) c.type_inv.room c.in_ok-kind.kind (sym (h.1 0) ∙ tag_of _ c.try_from.ensures (sym c.ok.ensures.value ∙ c.in_ok-kind.was)) (rw c.limit_of.ensures at c.in_err-key.ensures))

pub returns : goal.returns
returns c =
    let h = c.in_ok-get.ensures.lookup.3 in
    key_behind _ _ _ (omega (arith, h.0)) c.type_inv.room c.in_ok-kind.kind (sym (h.1 0) ∙ tag_of _ c.try_from.ensures (sym c.ok.ensures.value ∙ c.in_ok-kind.was)) (rw c.limit_of.ensures at c.in_ok-key.ensures)
