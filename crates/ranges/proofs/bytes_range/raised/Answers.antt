-- The prefix is pasted, and its last byte raised.
use native.Mathlib.Omega.{arith}
use Rattle.ranges.proofs.MadeLaws.{front_bytes}
use Rattle.ranges.proofs.MakingLaws.{raised_bytes}
use Rattle.ranges.proofs.bytes_range.raised.Goals as goal

pub returns : goal.returns
returns c = raised_bytes c.args.prefix.now (omega arith) (omega arith) (front_bytes c.args.prefix.now (omega arith) c.zeros.ensures c.with_bytes-bytes.ensures)
