-- The starts decide, and the ends where the starts are equal.
use mathlib.Core.Path.{◌≡◌, ◌∙◌}
use native.Mathlib.Omega.{arith}
use borrow.Author.Rules.{rules}
use mir.Syntax.{w8}
use mir.Val.{of_z}
use Rattle.kinds.specs.Bounds.{bound, start_order, end_order}
use Rattle.kinds.proofs.Ties.{kept_sign, tied, untied}
use Rattle.bounds.proofs.comparable_range.ComparableRange.compare.Goals as goal

pub returns-in-0 : goal.returns-in-0
returns-in-0 c = let e : of_z w8 c.compare_start.result ≡ 0 = omega arith in
    rw c.compare_end.ensures
    (kept_sign (end_order (bound c.args.self.end c.args.end_key.now) (bound c.args.other.end c.args.other_end_key.now)) ∙ tied (start_order (bound c.args.self.start c.args.start_key.now) (bound c.args.other.start c.args.other_start_key.now)) (end_order (bound c.args.self.end c.args.end_key.now) (bound c.args.other.end c.args.other_end_key.now)) (rw c.compare_start.ensures at e))

pub returns-in_default : goal.returns-in_default
returns-in_default c = let e : of_z w8 c.compare_start.result ≡ 0 → ⊥ = search rules in
    rw c.compare_start.ensures
    (kept_sign (start_order (bound c.args.self.start c.args.start_key.now) (bound c.args.other.start c.args.other_start_key.now)) ∙ untied (start_order (bound c.args.self.start c.args.start_key.now) (bound c.args.other.start c.args.other_start_key.now)) (end_order (bound c.args.self.end c.args.end_key.now) (bound c.args.other.end c.args.other_end_key.now)) (rw c.compare_start.ensures at e))
