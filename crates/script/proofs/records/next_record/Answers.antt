-- The bytes decide in order: none, the tag, the head, the length, the payload; else the record is whole.
use Rattle.std.proofs.Common.{ℕ, refl, sym, ◌∙◌, arith, length-take, length-drop}
use Rattle.fields.proofs.Reading.{size_read}
use Rattle.script.proofs.RecordLaws.{known_read, unknown_read, none_left, tag_unknown, head_cut, too_long_lem, payload_cut, record_here}
use Rattle.script.proofs.records.next_record.Goals as goal

pub returns-in_default : goal.returns-in_default
returns-in_default c = none_left _ _ c.in_default.ensures.lookup.3

pub returns-then-is_err : goal.returns-then-is_err
returns-then-is_err c = tag_unknown _ _ c.in-Some.ensures.lookup.3.0 (unknown_read _ _ (rw (c.in-Some.ensures.lookup.4 (omega arith) 0) at c.try_from.ensures) (sym c.if-is_err.ensures.value))

pub returns-in_default-2 : goal.returns-in_default-2
returns-in_default-2 c = head_cut _ _ c.in-Some.ensures.lookup.3.0 (known_read _ _ (rw (c.in-Some.ensures.lookup.4 (omega arith) 0) at c.try_from.ensures) (sym c.if-is_err.ensures.value)) (omega (arith, length-take {A = ℕ}, length-drop {A = ℕ}))

pub returns-then-n-gt-PAYLOAD_LIMIT : goal.returns-then-n-gt-PAYLOAD_LIMIT
returns-then-n-gt-PAYLOAD_LIMIT c =
    let e = c.from-n.ensures ∙ c.from_be_bytes.ensures ∙ size_read _ _ in
    too_long_lem _ _ _ _ (omega (arith, length-take {A = ℕ}, length-drop {A = ℕ})) (known_read _ _ (rw (c.in-Some.ensures.lookup.4 (omega arith) 0) at c.try_from.ensures) (sym c.if-is_err.ensures.value)) refl refl (omega (arith, e))

pub returns-then-rest-n : goal.returns-then-rest-n
returns-then-rest-n c =
    let e = c.from-n.ensures ∙ c.from_be_bytes.ensures ∙ size_read _ _ in
    payload_cut _ _ _ _ (omega (arith, length-take {A = ℕ}, length-drop {A = ℕ})) (known_read _ _ (rw (c.in-Some.ensures.lookup.4 (omega arith) 0) at c.try_from.ensures) (sym c.if-is_err.ensures.value)) refl refl (omega (arith, e)) (omega (arith, e, length-take {A = ℕ}, length-drop {A = ℕ}))

pub returns : goal.returns
returns c =
    let e = c.from-n.ensures ∙ c.from_be_bytes.ensures ∙ size_read _ _ in
    rw (c.in-Some.ensures.lookup.4 (omega arith) 0, e) (record_here _ _ _ _ (omega (arith, length-take {A = ℕ}, length-drop {A = ℕ})) (known_read _ _ (rw (c.in-Some.ensures.lookup.4 (omega arith) 0) at c.try_from.ensures) (sym c.if-is_err.ensures.value)) refl refl (omega (arith, e)) (omega (arith, e, length-take {A = ℕ}, length-drop {A = ℕ})))
