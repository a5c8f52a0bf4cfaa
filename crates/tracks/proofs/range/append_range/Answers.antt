-- The count of the ranges stands behind both sets; the bounds go to the end of the transaction's record, and the count is one more.
use native.Mathlib.Omega.{arith}
use Rattle.places.proofs.EndLaws.{writes_here, reads_here}
use Rattle.tracks.proofs.AppendLaws.{txn_stands, count_inside, few_ranges, appended}
use Rattle.tracks.proofs.range.append_range.Goals as goal

pub set_past-requires : goal.set_past-requires
set_past-requires c = writes_here (txn_stands c.requires)

pub set_past-at-requires : goal.set_past-at-requires
set_past-at-requires c = reads_here (txn_stands c.requires) c.set_past.ensures

pub read_two-count-requires : goal.read_two-count-requires
read_two-count-requires c = count_inside c.requires c.set_past.ensures c.set_past-at.ensures

pub overflow_add-count : goal.overflow_add-count
overflow_add-count c = omega (arith, few_ranges c.requires c.set_past.ensures c.set_past-at.ensures c.read_two-count.ensures)

pub write_two-requires : goal.write_two-requires
write_two-requires c = omega (arith, count_inside c.requires c.set_past.ensures c.set_past-at.ensures, c.splice.ensures.size)

pub returns : goal.returns
returns c = appended c.requires c.set_past.ensures c.set_past-at.ensures c.read_two-count.ensures c.splice.ensures c.write_two.ensures
