-- A bound of a valid room has the tag of its kind.
use native.Mathlib.Omega.{arith}
use Rattle.places.proofs.MarkLaws.{kind_read, kind_is, bound_room}
use Rattle.places.proofs.cursor.kind_at.Goals as goal

pub bounds-room-at : goal.bounds-room-at
bounds-room-at c = bound_room _ _ c.requires

pub unwrap-requires : goal.unwrap-requires
unwrap-requires c = kind_read _ _ (λ i. omega (arith, c.type_inv.room i)) _ c.requires c.try_from.ensures

pub returns : goal.returns
returns c = kind_is _ _ (λ i. omega (arith, c.type_inv.room i)) _ _ c.try_from.ensures c.unwrap.ensures
