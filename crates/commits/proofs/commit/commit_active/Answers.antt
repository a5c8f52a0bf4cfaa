-- Answered in order: malformed, not active, the only one active (the list is emptied), as many entries as there may be; else its writes enter.
use Rattle.answers.proofs.SeenLaws.{active_rows}
use Rattle.commits.proofs.CommitLaws.{commit_refused, commit_unknown, commit_only, commit_many, commit_leaving, commit_entered}
use Rattle.answers.proofs.LeftLaws.{here_bounds}
use native.Mathlib.Omega.{arith}
use Rattle.commits.proofs.commit.commit_active.Goals as goal

pub returns-then-id-ne-ID : goal.returns-then-id-ne-ID
returns-then-id-ne-ID c = commit_refused c.requires c.if-id-ne-ID.true

pub find_txn-requires : goal.find_txn-requires
find_txn-requires c = active_rows c.requires

pub returns-in_default : goal.returns-in_default
returns-in_default c = commit_unknown c.requires c.if-id-ne-ID.false c.in_default.ensures c.advance_committed_seq.ensures (omega (arith, c.ranges.seq))

pub returns-then-v-eq1 : goal.returns-then-v-eq1
returns-then-v-eq1 c = commit_only c.requires c.if-id-ne-ID.false c.in-Ok.ensures c.if-v-eq1.true c.max-value.ensures c.empty_recent_committed_txns.ensures.changed (omega (arith, c.ranges.seq))

pub returns-then-v-ge-ENTRY_LIMIT : goal.returns-then-v-ge-ENTRY_LIMIT
returns-then-v-ge-ENTRY_LIMIT c = commit_many c.requires c.if-id-ne-ID.false c.in-Ok.ensures c.if-v-eq1.false (omega (arith, c.if-v-ge-ENTRY_LIMIT.true))

pub enter_writes-requires : goal.enter_writes-requires
enter_writes-requires c = commit_leaving c.requires c.in-Ok.ensures

pub overflow_sub-v : goal.overflow_sub-v
overflow_sub-v c = (here_bounds c.requires c.in-Ok.ensures).some

pub returns : goal.returns
returns c = commit_entered c.requires c.if-id-ne-ID.false c.in-Ok.ensures c.if-v-eq1.false (omega (arith, c.if-v-ge-ENTRY_LIMIT.false)) c.enter_writes.ensures c.write_two.ensures c.write_two-2.ensures c.advance_committed_seq-2.ensures (omega (arith, c.ranges.seq))
