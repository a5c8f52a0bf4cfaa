-- The least of `most` and all starts is the least of `low` and the starts that are left.
use Rattle.places.proofs.SplitLaws.{to_go}
use Rattle.places.proofs.LowLaws.{Low}
use Rattle.places.proofs.finds.least_start.Given as goal

abbrev pub invariant-loop : goal.invariant-loop
invariant-loop l = Low l.room l.at l.n l.most (to_go l.n l.counter l.from) l.low
