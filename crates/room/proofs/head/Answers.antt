-- The stamp decides; the other numbers are read where they stand.
use native.Mathlib.Omega.{arith}
use Rattle.room.proofs.HeadLaws.{head_other, head_is}
use Rattle.room.proofs.head.Goals as goal

pub returns-then-stamp-ne-STAMP : goal.returns-then-stamp-ne-STAMP
returns-then-stamp-ne-STAMP c = head_other _ _ c.read_eight-stamp.ensures c.if-stamp-ne-STAMP.true

pub returns : goal.returns
returns c = head_is _ _ c.read_eight-stamp.ensures (omega arith) c.if-stamp-ne-STAMP.false _ c.read_eight-last.ensures c.read_two-entries.ensures c.read_two-active.ensures
