-- The payload is cut where its id ends, and what follows it is the list, whichever set its keys go to.
use Rattle.machine.specs.declared.Which.TheVariants.{Writes, Reads}
use Rattle.machine.specs.Calls.{track_keys}
use Rattle.script.proofs.CallLaws.{served_as, split_as}
use Rattle.script.proofs.served.serve_keys.Goals as goal

pub returns-in-Writes : goal.returns-in-Writes
returns-in-Writes c = rw c.in-Writes.is (served_as (split_as (track_keys Writes) c.id_end.ensures c.split_at.ensures.front c.split_at.ensures.back) c.track_write_keys.ensures)

pub returns-in-Reads : goal.returns-in-Reads
returns-in-Reads c = rw c.in-Reads.is (served_as (split_as (track_keys Reads) c.id_end.ensures c.split_at.ensures.front c.split_at.ensures.back) c.track_read_keys.ensures)
