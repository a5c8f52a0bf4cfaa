-- The transactions that are passed have lesser ids.
use mathlib.Core.Path.{refl}
use native.Mathlib.Omega.{arith}
use Rattle.places.proofs.SplitLaws.{one_less, turn, turn_here}
use Rattle.places.proofs.SeekLaws.{next_inside, is_less_lem, is_same_lem, is_more_lem, seek_start, seek_end, seek_before, seek_next, seek_found}
use Rattle.places.proofs.finds.find_txn.Goals as goal

pub loop-init : goal.loop-init
loop-init c = seek_start _ c.requires (refl, omega arith)

pub overflow_add-from : goal.overflow_add-from
overflow_add-from c = omega (arith, next_inside c.loop.invariant (omega arith))

pub slice_bounds-compare-end : goal.slice_bounds-compare-end
slice_bounds-compare-end c = omega (arith, next_inside c.loop.invariant (omega arith))

pub returns-then-sign-lt0 : goal.returns-then-sign-lt0
returns-then-sign-lt0 c = seek_before _ (turn _ _ c.loop.invariant (omega arith)) (is_less_lem c.compare-sign.ensures c.if-sign-lt0.true)

pub txn_past-to-requires : goal.txn_past-to-requires
txn_past-to-requires c = turn_here _ _ (turn _ _ c.loop.invariant (omega arith))

pub returns-then-sign-eq0 : goal.returns-then-sign-eq0
returns-then-sign-eq0 c = seek_found _ (turn _ _ c.loop.invariant (omega arith)) c.txn_past-to.ensures (is_same_lem c.compare-sign.ensures c.if-sign-eq0.true)

pub loop-preserved : goal.loop-preserved
loop-preserved c = let more = is_more_lem c.compare-sign.ensures c.if-sign-lt0.false c.if-sign-eq0.false in
    seek_next _ (turn _ _ c.loop.invariant (omega arith)) c.txn_past-to.ensures more (one_less _ _ _)

pub returns : goal.returns
returns c = seek_end _ c.loop.invariant (omega arith)
