-- The least of `most` and all starts is the least of `low` and the starts that are left.
use mathlib.Core.Path.{refl}
use native.Mathlib.Omega.{arith}
use Rattle.places.proofs.SplitLaws.{one_less, turn, turn_here}
use Rattle.places.proofs.SeekLaws.{next_inside}
use Rattle.places.proofs.LowLaws.{low_start, low_next, low_end}
use Rattle.places.proofs.finds.least_start.Goals as goal

pub loop-init : goal.loop-init
loop-init c = low_start _ c.requires (refl, omega arith)

pub overflow_add-from : goal.overflow_add-from
overflow_add-from c = omega (arith, next_inside c.loop.invariant (omega arith))

pub read_eight-requires : goal.read_eight-requires
read_eight-requires c = omega (arith, next_inside c.loop.invariant (omega arith))

pub txn_past-from-requires : goal.txn_past-from-requires
txn_past-from-requires c = turn_here _ _ (turn _ _ c.loop.invariant (omega arith))

pub loop-preserved : goal.loop-preserved
loop-preserved c = low_next _ _ _ _ (turn _ _ c.loop.invariant (omega arith)) c.txn_past-from.ensures c.read_eight.ensures c.min-low.ensures (one_less _ _ _)

pub returns : goal.returns
returns c = low_end _ _ c.loop.invariant (omega arith)
