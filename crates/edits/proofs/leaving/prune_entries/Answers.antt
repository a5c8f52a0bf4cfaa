-- Invariant: of the entries that are passed the kept ones stand together up to `end`, and from the next on the bytes are as they were (`Pruning`).
use mathlib.Core.Path.{refl}
use native.Mathlib.Omega.{arith}
use Rattle.places.proofs.SplitLaws.{one_less, turn}
use Rattle.edits.proofs.PruneLaws.{prune_start, here, room_for_seq, ahead, prune_drop, prune_keep, prune_end}
use Rattle.edits.proofs.leaving.prune_entries.Goals as goal

pub loop-init : goal.loop-init
loop-init c = prune_start c.requires (refl, omega arith)

pub entry_past-next-requires : goal.entry_past-next-requires
entry_past-next-requires c = here (turn _ _ c.loop.invariant (omega arith))

pub read_eight-requires : goal.read_eight-requires
read_eight-requires c = room_for_seq (turn _ _ c.loop.invariant (omega arith))

pub loop-preserved-then-read_eight-least : goal.loop-preserved-then-read_eight-least
loop-preserved-then-read_eight-least c = prune_drop (turn _ _ c.loop.invariant (omega arith)) c.entry_past-next.ensures c.read_eight.ensures (one_less _ _ _) c.if-read_eight-least.true

pub overflow_sub-next : goal.overflow_sub-next
overflow_sub-next c = (ahead (turn _ _ c.loop.invariant (omega arith)) c.entry_past-next.ensures).1

pub shift-requires : goal.shift-requires
shift-requires c = let s = ahead (turn _ _ c.loop.invariant (omega arith)) c.entry_past-next.ensures in
    (omega (arith, s.1, s.2), omega (arith, s.0, s.1, s.2))

pub overflow_sub-end : goal.overflow_sub-end
overflow_sub-end c = (ahead (turn _ _ c.loop.invariant (omega arith)) c.entry_past-next.ensures).1

pub overflow_add-end : goal.overflow_add-end
overflow_add-end c = let s = ahead (turn _ _ c.loop.invariant (omega arith)) c.entry_past-next.ensures in
    omega (arith, s.0, s.1, s.2)

pub overflow_add-count : goal.overflow_add-count
overflow_add-count c = omega (arith, c.loop.invariant.holds.few)

pub loop-preserved : goal.loop-preserved
loop-preserved c = prune_keep (turn _ _ c.loop.invariant (omega arith)) c.entry_past-next.ensures c.read_eight.ensures (one_less _ _ _) c.if-read_eight-least.false c.shift.ensures

pub shape_of-room : goal.shape_of-room
shape_of-room c = c.loop.invariant.holds.size

pub returns : goal.returns
returns c = prune_end c.loop.invariant (omega arith)
