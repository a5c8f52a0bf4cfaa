-- As many records as were counted are passed.
use Rattle.places.proofs.SplitLaws.{to_go, Passing}
use Rattle.places.proofs.skips.row_past.Given as goal

abbrev pub invariant-loop : goal.invariant-loop
invariant-loop g l = Passing g.R.Listed.form.codec l.room l.at l.n (to_go l.n l.counter l.end)
