-- Each turn goes on to the next query.
use Rattle.std.proofs.Common.{length, ◌-◌}
use Rattle.sample.proofs.replay.Given as goal

abbrev pub decreases-loop-at : goal.decreases-loop-at
decreases-loop-at l = length l.queries - l.at
