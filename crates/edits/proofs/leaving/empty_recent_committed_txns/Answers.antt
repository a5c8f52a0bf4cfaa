-- Of the heads the number and the two counts are written; the heads are then all that is used.
use Rattle.edits.proofs.EditLaws.{heads_emptied}
use Rattle.edits.proofs.RecycleLaws.{empties}
use Rattle.edits.proofs.leaving.empty_recent_committed_txns.Goals as goal

pub returns-clause-changed : goal.returns-clause-changed
returns-clause-changed c = empties c.args.room.now _ _ _ _ c.write_eight.ensures c.write_two.ensures c.write_two-2.ensures

pub returns-clause-written : goal.returns-clause-written
returns-clause-written c = heads_emptied c.args.room.now _ _ _ _ c.requires c.write_eight.ensures c.write_two.ensures c.write_two-2.ensures
