-- The head, the entries and the active ones are read one after another: the first that is missing, or totals that are not sound, make it no state.
use mathlib.Core.Path.{sym, ◌∙◌}
use Rattle.room.proofs.OpenLaws.{no_head, no_entries, no_active, not_sound, seen}
use Rattle.room.proofs.open_record.Goals as goal

pub returns-in_err-top : goal.returns-in_err-top
returns-in_err-top c = rw c.from_residual.ensures (no_head c.requires c.in_err-top.ensures)

pub returns-in_err-t : goal.returns-in_err-t
returns-in_err-t c = rw c.from_residual-in_err-t.ensures (no_entries c.requires c.in_ok-top.ensures c.in_err-t.ensures)

pub returns-in_err-u : goal.returns-in_err-u
returns-in_err-u c = rw c.from_residual-in_err-u.ensures (no_active c.requires c.in_ok-top.ensures c.in_ok-t.ensures c.in_err-u.ensures)

pub returns-then-not-sound : goal.returns-then-not-sound
returns-then-not-sound c = not_sound c.requires c.in_ok-top.ensures c.in_ok-t.ensures c.in_ok-u.ensures _ c.joined-all.ensures (sym c.sound.ensures ∙ c.if-not-sound.true)

pub returns : goal.returns
returns c = seen c.requires c.in_ok-top.ensures c.in_ok-t.ensures c.in_ok-u.ensures _ c.joined-all.ensures (sym c.sound.ensures ∙ c.if-not-sound.false)
