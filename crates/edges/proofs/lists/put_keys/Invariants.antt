-- The place of the next key lies within the list, whose length does not change.
use Rattle.std.proofs.Common.{◌≤◌, length}
use Rattle.edges.proofs.lists.put_keys.Given as goal

abbrev pub invariant-loop-number : goal.invariant-loop-number
invariant-loop-number l = l.at ≤ length l.list
