-- As many records as were counted are passed.
use native.Mathlib.Omega.{arith}
use mathlib.Core.Path.{refl}
use Rattle.places.proofs.SplitLaws.{one_less, search_start, search_next, turn, turn_here, row_ends}
use Rattle.places.proofs.skips.row_past.Goals as goal

pub loop-init : goal.loop-init
loop-init g c = search_start g.R.Listed.form.codec _ (λ xs. tt) c.requires (refl, omega arith)

pub past-end-requires : goal.past-end-requires
past-end-requires g c = turn_here _ _ (turn _ _ c.loop.invariant (omega arith))

pub loop-preserved : goal.loop-preserved
loop-preserved g c = search_next _ _ (λ front rest. Unit {0}) (turn _ _ c.loop.invariant (omega arith)) c.past-end.ensures (one_less _ _ _) tt

pub returns : goal.returns
returns g c = row_ends _ c.loop.invariant (omega arith)
