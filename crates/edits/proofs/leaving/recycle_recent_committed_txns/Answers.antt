-- With nobody active the list is emptied; otherwise the kept entries close up and their count is written.
use Rattle.edits.proofs.RecycleLaws.{recycle_room, recycle_nobody, recycle_entries, recycle_active, recycle_inside, recycle_some}
use native.Mathlib.Omega.{arith}
use Rattle.edits.proofs.leaving.recycle_recent_committed_txns.Goals as goal

pub empty_recent_committed_txns-requires : goal.empty_recent_committed_txns-requires
empty_recent_committed_txns-requires c = recycle_room c.requires

pub returns-then-v-eq0 : goal.returns-then-v-eq0
returns-then-v-eq0 c = recycle_nobody c.requires c.if-v-eq0.true c.empty_recent_committed_txns.ensures.changed

pub least_start-least-requires : goal.least_start-least-requires
least_start-least-requires c = recycle_active c.requires

pub prune_entries-kept-requires : goal.prune_entries-kept-requires
prune_entries-kept-requires c = recycle_entries c.requires

pub overflow_sub-v : goal.overflow_sub-v
overflow_sub-v c = (recycle_inside c.requires _ c.prune_entries-kept.ensures).0

pub remove-requires : goal.remove-requires
remove-requires c = let i = recycle_inside c.requires _ c.prune_entries-kept.ensures in
    (omega (arith, i.0, i.1.0), i.1.1)

pub returns : goal.returns
returns c = recycle_some _ (omega (arith, c.if-v-eq0.false)) c.least_start-least.ensures c.prune_entries-kept.ensures c.remove.ensures c.write_two.ensures
