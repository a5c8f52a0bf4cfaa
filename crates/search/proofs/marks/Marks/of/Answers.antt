-- Writes, reads and ranges stand one behind the other, each a list behind its count.
use Rattle.places.proofs.EndLaws.{writes_here, reads_here, ranges_here}
use Rattle.search.proofs.LeftLaws.{set_room, ranges_room, marks_at}
use Rattle.search.proofs.marks.Marks.of.Goals as goal

pub set_past-reads_at-requires : goal.set_past-reads_at-requires
set_past-reads_at-requires c = writes_here c.requires

pub set_past-ranges_at-requires : goal.set_past-ranges_at-requires
set_past-ranges_at-requires c = reads_here c.requires c.set_past-reads_at.ensures

pub of_list-requires : goal.of_list-requires
of_list-requires c = set_room (writes_here c.requires)

pub of_list-requires-2 : goal.of_list-requires-2
of_list-requires-2 c = set_room (reads_here c.requires c.set_past-reads_at.ensures)

pub of_list-requires-3 : goal.of_list-requires-3
of_list-requires-3 c = ranges_room (ranges_here c.requires c.set_past-reads_at.ensures c.set_past-ranges_at.ensures)

pub returns : goal.returns
returns c = marks_at _ _ _ _ _ _ _ c.set_past-reads_at.ensures c.set_past-ranges_at.ensures c.of_list.ensures c.of_list-2.ensures c.of_list-3.ensures
