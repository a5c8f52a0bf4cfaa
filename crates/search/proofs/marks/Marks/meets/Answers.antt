-- The first mark that is left is the one under the first cursor that is not over.
use Rattle.search.proofs.LeftLaws.{write_turn, read_turn, range_turn, turn_here, key_met, range_met}
use Rattle.search.proofs.marks.Marks.meets.Goals as goal

pub is_key-requires : goal.is_key-requires
is_key-requires c = turn_here (write_turn _ _ _ _ c.requires.left c.if-self-gt0.true)

pub returns-then-self-gt0 : goal.returns-then-self-gt0
returns-then-self-gt0 c = record { is = λ m ms l. key_met _ _ (write_turn _ _ _ _ l c.if-self-gt0.true) c.is_key.ensures }

pub is_key-requires-then-self-gt0-2 : goal.is_key-requires-then-self-gt0-2
is_key-requires-then-self-gt0-2 c = turn_here (read_turn _ _ _ _ c.requires.left c.if-self-gt0.false c.if-self-gt0-2.true)

pub returns-then-self-gt0-2 : goal.returns-then-self-gt0-2
returns-then-self-gt0-2 c = record { is = λ m ms l. key_met _ _ (read_turn _ _ _ _ l c.if-self-gt0.false c.if-self-gt0-2.true) c.is_key-then-self-gt0-2.ensures }

pub holds-requires : goal.holds-requires
holds-requires c = turn_here (range_turn _ _ _ _ c.requires.left c.if-self-gt0.false c.if-self-gt0-2.false)

pub returns : goal.returns
returns c = record { is = λ m ms l. range_met _ _ (range_turn _ _ _ _ l c.if-self-gt0.false c.if-self-gt0-2.false) c.holds.ensures }
