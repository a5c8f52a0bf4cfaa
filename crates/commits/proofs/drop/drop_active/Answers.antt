-- With the id taken out if it is there, what stands can be pruned, and the pruned state is the machine's.
use Rattle.answers.proofs.SeenLaws.{active_rows}
use Rattle.commits.proofs.DropLaws.{drop_refused, drop_unknown, drop_prunable, drop_known}
use Rattle.answers.proofs.LeftLaws.{here_bounds}
use Rattle.commits.proofs.PrunableLaws.{seen_prunable}
use native.Mathlib.Omega.{arith}
use Rattle.commits.proofs.drop.drop_active.Goals as goal

pub returns-then-id-ne-ID : goal.returns-then-id-ne-ID
returns-then-id-ne-ID c = drop_refused c.requires c.if-id-ne-ID.true

pub find_txn-requires : goal.find_txn-requires
find_txn-requires c = active_rows c.requires

pub recycle_recent_committed_txns-kept-requires : goal.recycle_recent_committed_txns-kept-requires
recycle_recent_committed_txns-kept-requires c = seen_prunable c.requires

pub returns-in_default : goal.returns-in_default
returns-in_default c = drop_unknown c.requires c.if-id-ne-ID.false c.in_default.ensures c.recycle_recent_committed_txns-kept.ensures

pub overflow_sub-gone : goal.overflow_sub-gone
overflow_sub-gone c = (here_bounds c.requires c.in-Ok.ensures).from

pub overflow_sub-rest : goal.overflow_sub-rest
overflow_sub-rest c = omega (arith, (here_bounds c.requires c.in-Ok.ensures).some)

pub overflow_sub-rest-2 : goal.overflow_sub-rest-2
overflow_sub-rest-2 c = omega (arith, (here_bounds c.requires c.in-Ok.ensures).within)

pub remove-requires : goal.remove-requires
remove-requires c = let b = here_bounds c.requires c.in-Ok.ensures in (omega (arith, b.from, b.within), b.inside)

pub recycle_recent_committed_txns-kept-requires-2 : goal.recycle_recent_committed_txns-kept-requires-2
recycle_recent_committed_txns-kept-requires-2 c = drop_prunable c.requires c.if-id-ne-ID.false c.in-Ok.ensures c.remove.ensures c.write_two.ensures

pub returns : goal.returns
returns c = drop_known c.requires c.if-id-ne-ID.false c.in-Ok.ensures c.remove.ensures c.write_two.ensures c.recycle_recent_committed_txns-kept-2.ensures
