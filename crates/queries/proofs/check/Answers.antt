-- Malformed, or not active; else the verdict is that of the search from the transaction that was found.
use Rattle.answers.proofs.SeenLaws.{active_rows, entry_rows}
use Rattle.answers.proofs.FoundLaws.{txn_here}
use Rattle.queries.proofs.QueryLaws.{checks_absent, checks_malformed, checks, verdict_is}
use Rattle.queries.proofs.check.Goals as goal

pub returns-then-id-ne-ID : goal.returns-then-id-ne-ID
returns-then-id-ne-ID c = checks_malformed _ _ _ c.requires c.if-id-ne-ID.true

pub find_txn-requires : goal.find_txn-requires
find_txn-requires c = active_rows c.requires

pub returns-in_default : goal.returns-in_default
returns-in_default c = checks_absent _ _ _ c.requires c.if-id-ne-ID.false c.in_default.ensures

pub conflicts-verdict-requires-clause-rows : goal.conflicts-verdict-requires-clause-rows
conflicts-verdict-requires-clause-rows c = entry_rows c.requires

pub conflicts-verdict-requires-clause-here : goal.conflicts-verdict-requires-clause-here
conflicts-verdict-requires-clause-here c = txn_here c.requires c.in-Ok.ensures

pub returns : goal.returns
returns c = rw (c.from.ensures, verdict_is _) (checks _ _ _ c.requires c.in-Ok.ensures c.if-id-ne-ID.false c.conflicts-verdict.ensures)
