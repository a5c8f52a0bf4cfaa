-- The bytes of the published size decide what the whole room holds.
use native.Mathlib.Omega.{arith}
use Rattle.room.proofs.FirstLaws.{opening_more, front_long}
use Rattle.room.proofs.OpenLaws.{too_small}
use Rattle.room.proofs.open.Goals as goal

pub returns-then-room-lt-SIZE : goal.returns-then-room-lt-SIZE
returns-then-room-lt-SIZE c = too_small c.if-room-lt-SIZE.true

pub returns : goal.returns
returns c = opening_more c.args.room.now (omega arith) c.open_record.result c.open_record.ensures

pub open_record-requires : goal.open_record-requires
open_record-requires c = front_long _ c.args.room.now (omega arith)
