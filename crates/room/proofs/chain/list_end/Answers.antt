-- A list is its count and so many of its chain.
use Rattle.room.proofs.ListLaws.{list_short, list_ends}
use Rattle.room.proofs.chain.list_end.Goals as goal

pub returns-then-room-at-lt-COUNT : goal.returns-then-room-at-lt-COUNT
returns-then-room-at-lt-COUNT g c = list_short g.C.Chained.chain _ _ c.if-room-at-lt-COUNT.true

pub returns : goal.returns
returns g c = list_ends g.C.Chained.chain _ _ _ c.read_two-n.ensures c.chain_end.result c.chain_end.ensures
