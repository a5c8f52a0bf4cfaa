-- The head and the payload are there, or the bytes end before, within or behind the head.
use Rattle.std.proofs.Common.{ℕ, refl, ◌∙◌, arith, length-take, length-drop}
use Rattle.fields.proofs.Reading.{size_read, ends_at, head_cut, payload_cut, field_here}
use Rattle.fields.proofs.field_at.Goals as goal

pub returns-then-bytes-at : goal.returns-then-bytes-at
returns-then-bytes-at c = ends_at _ _ (omega arith)

pub returns-in_default : goal.returns-in_default
returns-in_default c = head_cut _ _ (omega arith) (omega (arith, length-take {A = ℕ}, length-drop {A = ℕ}))

pub returns-then-rest-n : goal.returns-then-rest-n
returns-then-rest-n c =
    let e = c.from-n.ensures ∙ c.from_be_bytes.ensures ∙ size_read _ _ in
    payload_cut _ _ _ _ _ (omega (arith, length-take {A = ℕ}, length-drop {A = ℕ})) refl refl refl (omega (arith, e, length-take {A = ℕ}, length-drop {A = ℕ}))

pub returns : goal.returns
returns c =
    let e = c.from-n.ensures ∙ c.from_be_bytes.ensures ∙ size_read _ _ in
    rw e (field_here _ _ _ _ _ (omega (arith, length-take {A = ℕ}, length-drop {A = ℕ})) refl refl refl (omega (arith, e, length-take {A = ℕ}, length-drop {A = ℕ})))
