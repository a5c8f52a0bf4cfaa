-- The transactions that are passed have lesser ids.
use Rattle.places.proofs.SplitLaws.{to_go}
use Rattle.places.proofs.SeekLaws.{Seek}
use Rattle.places.proofs.finds.find_txn.Given as goal

abbrev pub invariant-loop : goal.invariant-loop
invariant-loop l = Seek l.room l.at l.n l.id (to_go l.n l.counter l.from)
