-- An entry is a sequence and a set, and cut where either is; its highest number is the sequence.
use Rattle.room.proofs.EntryLaws.{entry_short, entry_cut, entry_got}
use Rattle.room.proofs.record.EntriesChained.one_end.Goals as goal

pub returns-then-room-at-lt-KEYS : goal.returns-then-room-at-lt-KEYS
returns-then-room-at-lt-KEYS c = entry_short _ _ _ c.if-room-at-lt-KEYS.true

pub returns-in_err-keys : goal.returns-in_err-keys
returns-in_err-keys c = rw c.from_residual.ensures (entry_cut _ _ _ _ c.read_eight-high.ensures c.in_err-keys.ensures)

pub returns : goal.returns
returns c = entry_got _ _ _ _ c.read_eight-high.ensures c.in_ok-keys.ensures
