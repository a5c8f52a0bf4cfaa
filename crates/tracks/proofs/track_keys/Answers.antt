-- Answered in the table's order: malformed, a key too long, not active, full; else the set with the list's keys takes the old one's place.
use native.Mathlib.Omega.{arith}
use Rattle.answers.proofs.SeenLaws.{active_rows}
use Rattle.answers.proofs.FoundLaws.{within, txn_here}
use Rattle.tracks.proofs.KeysLaws.{keys_refused, keys_bad, keys_absent, growable, keys_full, keys_done}
use Rattle.answers.proofs.SaidLaws.{refuses}
use Rattle.tracks.proofs.track_keys.Goals as goal

pub returns-then-id-ne-ID : goal.returns-then-id-ne-ID
returns-then-id-ne-ID c = keys_refused c.requires _ _ _ c.if-id-ne-ID.true

pub returns-in_err-check_keys : goal.returns-in_err-check_keys
returns-in_err-check_keys c = refuses _ _ c.from_residual.ensures.1 (keys_bad c.requires _ _ _ (omega arith) _ c.in_err-check_keys.ensures)

pub find_txn-requires : goal.find_txn-requires
find_txn-requires c = active_rows c.requires

pub returns-in_default : goal.returns-in_default
returns-in_default c = keys_absent c.requires _ _ _ (omega arith) c.in_ok-check_keys.ensures c.in_default.ensures

pub set_at-set-requires : goal.set_at-set-requires
set_at-set-requires c = txn_here c.requires c.in-Ok.ensures

pub left-requires : goal.left-requires
left-requires c = within c.requires

pub grow_set-requires : goal.grow_set-requires
grow_set-requires c = growable c.requires _ _ _ (omega arith) c.in_ok-check_keys.ensures c.in-Ok.ensures c.set_at-set.ensures c.left.ensures.marks c.left.ensures.bytes

pub returns-in_err-new : goal.returns-in_err-new
returns-in_err-new c = refuses _ _ c.from_residual-in_err-new.ensures.1 (keys_full c.requires _ _ _ (omega arith) c.in_ok-check_keys.ensures c.in-Ok.ensures c.set_at-set.ensures c.left.ensures.marks c.left.ensures.bytes c.in_err-new.ensures)

pub returns : goal.returns
returns c = keys_done c.requires _ _ _ (omega arith) c.in_ok-check_keys.ensures c.in-Ok.ensures c.set_at-set.ensures c.left.ensures.marks c.left.ensures.bytes c.in_ok-new.ensures
