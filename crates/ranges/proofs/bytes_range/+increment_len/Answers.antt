-- Where the last byte is ff, the increment of the prefix without it is the increment of all.
use native.Mathlib.Omega.{arith}
use borrow.Author.Rules.{rules}
use Rattle.ranges.proofs.IncrementLaws.{increment_empty, raises_shorter}
use Rattle.ranges.proofs.bytes_range.+increment_len.Goals as goal

pub returns-in-empty : goal.returns-in-empty
returns-in-empty t c = increment_empty _ (omega arith)

pub returns-in-255 : goal.returns-in-255
returns-in-255 t c = raises_shorter _ _ (omega arith) (search rules) c.increment_len.ensures
