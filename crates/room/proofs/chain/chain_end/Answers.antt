-- Invariant: as many as were counted are read up to t.end, and the last of them stands at p (`Going`).
use mathlib.Core.Path.{sym, ◌∙◌}
use Rattle.room.proofs.GoingLaws.{going_start, going_next, going_unfit, going_cut, going_end}
use Rattle.room.proofs.chain.chain_end.Goals as goal

pub loop-init : goal.loop-init
loop-init g c = rw c.start-t.ensures (going_start g.C.Chained.chain _ _ _ c.requires)

pub returns-in_err-u : goal.returns-in_err-u
returns-in_err-u g c = rw c.from_residual.ensures (going_cut _ c.loop.invariant c.loop-test.true c.in_err-u.ensures)

pub returns-then-not-may_follow : goal.returns-then-not-may_follow
returns-then-not-may_follow g c =
    going_unfit _ c.loop.invariant c.loop-test.true g.met.C.Chained.linked c.in_ok-u.ensures (sym c.may_follow.ensures ∙ c.if-not-may_follow.true)

pub loop-preserved : goal.loop-preserved
loop-preserved g c =
    rw c.joined-t.ensures (going_next _ c.loop.invariant c.loop-test.true g.met.C.Chained.linked c.in_ok-u.ensures (sym c.may_follow.ensures ∙ c.if-not-may_follow.false))

pub returns : goal.returns
returns g c = going_end _ c.loop.invariant c.loop-test.false
