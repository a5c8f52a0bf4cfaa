-- The stamp and the heads, one right behind the other, are the record of the fresh state.
use Rattle.edits.proofs.EditLaws.{fresh_written}
use Rattle.edits.proofs.write_fresh.Goals as goal

pub returns : goal.returns
returns c = fresh_written c.args.room.now _ _ _ c.requires c.write_eight.ensures c.empty_recent_committed_txns.ensures.written
