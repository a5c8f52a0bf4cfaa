-- Writes, reads and ranges follow each other, and the transaction ends where the ranges do.
use Rattle.places.proofs.EndLaws.{writes_here, reads_here, ranges_fills, ranges_here, ends_as}
use Rattle.places.proofs.skips.txn_past.Goals as goal

pub set_past-requires : goal.set_past-requires
set_past-requires c = writes_here c.requires

pub set_past-requires-2 : goal.set_past-requires-2
set_past-requires-2 c = reads_here c.requires c.set_past.ensures

pub ranges_past-requires : goal.ranges_past-requires
ranges_past-requires c = ranges_here c.requires c.set_past.ensures c.set_past-2.ensures

pub returns : goal.returns
returns c = ends_as _ _ c.requires.fills (ranges_fills c.requires.fills c.set_past.ensures c.set_past-2.ensures) c.ranges_past.ensures
