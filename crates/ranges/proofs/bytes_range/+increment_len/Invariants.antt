-- By recursion on the prefix without its last byte: the increment of all is the increment of the first r bytes.
use Rattle.std.proofs.Common.{length}
use Rattle.ranges.proofs.bytes_range.+increment_len.Given as goal

abbrev pub decreases-increment_len : goal.decreases-increment_len
decreases-increment_len l = length l.prefix.now
