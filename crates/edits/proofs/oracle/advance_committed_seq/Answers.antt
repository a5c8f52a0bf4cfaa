-- What was read is the last number, so the larger of both is what is written.
use Rattle.edits.proofs.OracleLaws.{advances}
use Rattle.edits.proofs.oracle.advance_committed_seq.Goals as goal

pub returns : goal.returns
returns c = advances c.last_committed_seq.ensures c.max-last.ensures c.write_eight.ensures
