-- Invariant: as many as were counted are read up to t.end, and the last of them stands at p (`Going`).
use Rattle.room.proofs.GoingLaws.{Going}
use Rattle.room.proofs.chain.chain_end.Given as goal

abbrev pub invariant-loop : goal.invariant-loop
invariant-loop g l = Going g.C.Chained.chain l.room l.at l.n l.t l.p l.counter
