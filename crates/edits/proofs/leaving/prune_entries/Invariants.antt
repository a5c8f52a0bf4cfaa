-- Invariant: of the entries that are passed the kept ones stand together up to `end`, and from the next on the bytes are as they were (`Pruning`).
use Rattle.places.proofs.SplitLaws.{to_go}
use Rattle.edits.proofs.PruneLaws.{Pruning}
use Rattle.edits.proofs.leaving.prune_entries.Given as goal

abbrev pub invariant-loop : goal.invariant-loop
invariant-loop l = Pruning l.initial.room l.n l.least l.room l.end l.count (to_go l.n l.counter l.next)
