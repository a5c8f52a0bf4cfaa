-- Turn by turn the draft holds the set with the keys of the list before this place, and the space is what these have not
-- taken (`Adding`).
use Prim.Native.Nat.{◌-◌}
use lib.ListN.{length}
use Rattle.tracks.proofs.InsertLaws.{Adding}
use Rattle.tracks.proofs.sets.insert_all.Given as goal

abbrev pub invariant-loop-key : goal.invariant-loop-key
invariant-loop-key l = Adding l.initial.draft l.initial.set l.list l.initial.space l.draft l.set l.space l.at

abbrev pub decreases-loop-key : goal.decreases-loop-key
decreases-loop-key l = length l.list - l.at
