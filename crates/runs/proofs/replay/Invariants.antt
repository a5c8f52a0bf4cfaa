-- The loop keeps nothing but its place, which grows or ends the replay.
use Rattle.std.proofs.Common.{length, ◌-◌}
use Rattle.runs.proofs.replay.Given as goal

abbrev pub decreases-loop-at : goal.decreases-loop-at
decreases-loop-at l = length l.runs - l.at
