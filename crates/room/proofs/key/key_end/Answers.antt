-- A key is cut where its length, the limit or the bytes run out; otherwise it is what its length says.
use native.Mathlib.Omega.{arith}
use Rattle.room.proofs.KeyLaws.{key_short, key_over, key_got}
use Rattle.room.proofs.key.key_end.Goals as goal

pub returns-then-room-at-lt-LENGTH : goal.returns-then-room-at-lt-LENGTH
returns-then-room-at-lt-LENGTH c = key_short _ _ _ c.if-room-at-lt-LENGTH.true

pub returns-then-min-n : goal.returns-then-min-n
returns-then-min-n c = key_over _ _ _ _ c.read_two-n.ensures (omega (arith, c.min.ensures, c.if-min-n.true))

pub returns : goal.returns
returns c = key_got _ _ _ _ c.read_two-n.ensures (omega (arith, c.min.ensures, c.if-min-n.false)) (omega (arith, c.min.ensures, c.if-min-n.false))
