-- Refused in the table's order: malformed, active already, full; else the new record is put where its id belongs, and then the count.
use Rattle.answers.proofs.SeenLaws.{active_rows}
use Rattle.begins.proofs.BeginLaws.{begins_malformed, begins_again, begins_full, begin_space, begins}
use Rattle.begins.proofs.begin.Goals as goal

pub returns-then-id-ne-ID : goal.returns-then-id-ne-ID
returns-then-id-ne-ID c = begins_malformed _ _ _ c.requires c.if-id-ne-ID.true

pub find_txn-requires : goal.find_txn-requires
find_txn-requires c = active_rows c.requires

pub returns-in_default : goal.returns-in_default
returns-in_default c = begins_again _ _ _ c.requires c.if-id-ne-ID.false c.in_default.ensures

pub returns-then-v-ge-ACTIVE_LIMIT : goal.returns-then-v-ge-ACTIVE_LIMIT
returns-then-v-ge-ACTIVE_LIMIT c = begins_full _ _ _ c.requires c.if-id-ne-ID.false c.in-Err.ensures c.if-v-ge-ACTIVE_LIMIT.true

pub put_txn-requires : goal.put_txn-requires
put_txn-requires c = begin_space _ _ _ c.requires c.if-id-ne-ID.false c.in-Err.ensures c.if-v-ge-ACTIVE_LIMIT.false

pub returns : goal.returns
returns c = begins _ _ _ c.requires c.if-id-ne-ID.false c.in-Err.ensures c.if-v-ge-ACTIVE_LIMIT.false c.last_committed_seq-start.ensures c.put_txn.ensures c.write_two.ensures
