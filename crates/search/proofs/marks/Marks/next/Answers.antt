-- The first cursor that is not over goes past its record, and the other marks stay.
use Rattle.search.proofs.LeftLaws.{write_turn, read_turn, range_turn, turn_here}
use Rattle.search.proofs.marks.Marks.next.Goals as goal

pub key_past-requires : goal.key_past-requires
key_past-requires c = turn_here (write_turn _ _ _ _ c.requires.left c.if-self-gt0.true)

pub returns-then-self-gt0 : goal.returns-then-self-gt0
returns-then-self-gt0 c = record { is = λ m ms l. (write_turn _ _ _ _ l c.if-self-gt0.true).next _ _ c.key_past.ensures c.past-writes.ensures }

pub key_past-requires-then-self-gt0-2 : goal.key_past-requires-then-self-gt0-2
key_past-requires-then-self-gt0-2 c = turn_here (read_turn _ _ _ _ c.requires.left c.if-self-gt0.false c.if-self-gt0-2.true)

pub returns-then-self-gt0-2 : goal.returns-then-self-gt0-2
returns-then-self-gt0-2 c = record { is = λ m ms l. (read_turn _ _ _ _ l c.if-self-gt0.false c.if-self-gt0-2.true).next _ _ c.key_past-then-self-gt0-2.ensures c.past-reads.ensures }

pub range_past-requires : goal.range_past-requires
range_past-requires c = turn_here (range_turn _ _ _ _ c.requires.left c.if-self-gt0.false c.if-self-gt0-2.false)

pub past-ranges-requires : goal.past-ranges-requires
past-ranges-requires c = (range_turn _ _ _ _ c.requires.left c.if-self-gt0.false c.if-self-gt0-2.false).some

pub returns : goal.returns
returns c = record { is = λ m ms l. (range_turn _ _ _ _ l c.if-self-gt0.false c.if-self-gt0-2.false).next _ _ c.range_past.ensures c.past-ranges.ensures }
