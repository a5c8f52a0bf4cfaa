-- The writes stand behind the id and the start, and the reads where the writes end.
use Rattle.places.proofs.EndLaws.{writes_here}
use Rattle.tracks.proofs.SetLaws.{writes_at_lem, reads_at}
use Rattle.tracks.proofs.set_at.Goals as goal

pub set_past-requires : goal.set_past-requires
set_past-requires c = writes_here c.requires

pub returns-in-Writes : goal.returns-in-Writes
returns-in-Writes c = rw c.in-Writes.is (writes_at_lem _ _)

pub returns-in-Reads : goal.returns-in-Reads
returns-in-Reads c = rw c.in-Reads.is (reads_at c.set_past.ensures)
