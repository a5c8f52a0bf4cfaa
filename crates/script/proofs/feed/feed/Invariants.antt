-- Turn by turn the records before `at` were served and their lines are the first `put` bytes (`FedTo`).
use Prim.Native.Nat.{◌-◌}
use mathlib.Core.Path.{◌≡◌}
use lib.ListN.{length}
use Rattle.script.specs.Played.{FedTo}
use Rattle.script.proofs.feed.feed.Given as goal

abbrev pub invariant-loop-out : goal.invariant-loop-out
invariant-loop-out l = FedTo l.initial.room l.bytes l.initial.out l.at l.put l.room l.out × (length l.room ≡ length l.initial.room)

abbrev pub decreases-loop-out : goal.decreases-loop-out
decreases-loop-out l = length l.bytes - l.at
