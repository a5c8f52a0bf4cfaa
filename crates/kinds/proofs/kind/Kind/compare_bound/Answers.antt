-- The tie decides where a bound is open or the keys are equal, and the keys decide otherwise.
use mathlib.Core.Path.{◌≡◌, sym, ap, ◌∙◌}
use native.Mathlib.Omega.{arith}
use borrow.Author.Rules.{rules}
use mir.Syntax.{w8}
use mir.Val.{of_z}
use Rattle.keys.specs.Order.{order, sign}
use Rattle.kinds.specs.Bounds.{tie_of}
use Rattle.kinds.proofs.Ties.{kept_sign, tied, untied, first_open, second_open, both_bounded}
use Rattle.kinds.proofs.kind.Kind.compare_bound.Goals.{then-not-bounded-via-then-not-bounded, then-not-bounded-via-else-not-bounded+then-not-bounded-2}
use Rattle.kinds.proofs.kind.Kind.compare_bound.Goals as goal

pub returns-then-not-bounded : goal.returns-then-not-bounded
returns-then-not-bounded c = rw c.tie_of.ensures
    (kept_sign (tie_of c.args.start c.args.self c.args.other) ∙ ap sign (elim c.then-not-bounded.branch [
      | then-not-bounded-via-then-not-bounded w ↦ first_open c.args.key.now c.args.other_key.now c.args.start c.args.self c.args.other (sym c.bounded.ensures ∙ w.if-not-bounded.true)
      | then-not-bounded-via-else-not-bounded+then-not-bounded-2 w ↦ second_open c.args.key.now c.args.other_key.now c.args.start c.args.self c.args.other (sym w.bounded-else-not-bounded.ensures ∙ w.if-not-bounded-2.true)
    ]))

pub returns-in-0 : goal.returns-in-0
returns-in-0 c = let e : of_z w8 c.compare.result ≡ 0 = omega arith in
    rw c.tie_of-in-0.ensures
    (kept_sign (tie_of c.args.start c.args.self c.args.other) ∙ tied (order c.args.key.now c.args.other_key.now) (tie_of c.args.start c.args.self c.args.other) (rw c.compare.ensures at e) ∙ ap sign (both_bounded c.args.key.now c.args.other_key.now c.args.start c.args.self c.args.other (sym c.bounded.ensures ∙ c.if-not-bounded.false) (sym c.bounded-else-not-bounded.ensures ∙ c.if-not-bounded-2.false)))

pub returns-in_default : goal.returns-in_default
returns-in_default c = let e : of_z w8 c.compare.result ≡ 0 → ⊥ = search rules in
    rw c.compare.ensures
    (kept_sign (order c.args.key.now c.args.other_key.now) ∙ untied (order c.args.key.now c.args.other_key.now) (tie_of c.args.start c.args.self c.args.other) (rw c.compare.ensures at e) ∙ ap sign (both_bounded c.args.key.now c.args.other_key.now c.args.start c.args.self c.args.other (sym c.bounded.ensures ∙ c.if-not-bounded.false) (sym c.bounded-else-not-bounded.ensures ∙ c.if-not-bounded-2.false)))
