-- The greater of two by a comparison's number is the greater by its order, and the lesser is the other one.
use mathlib.Core.Path.{◌≡◌, refl, ap, ◌∙◌}
use mathlib.Core.Bool.{cond}
use mathlib.Core.Ordering.{Ordering, lt, eq, gt}
use mir.Syntax.{w8}
use mir.Val.{to_z, of_z}
use Rattle.std.specs.Prelude.{ℤ, pos, int_lt}
use Rattle.keys.specs.Order.{sign, is_more}
use Rattle.bounds.specs.declared.sides.Side.{Side}
use Rattle.bounds.specs.declared.sides.Side.TheVariants.{First, Second}
use Rattle.bounds.specs.Sides.{other_side}

more_sign : (o : Ordering) → cond (int_lt (pos 0) (to_z w8 (of_z w8 (sign o)))) First Second ≡ cond (is_more o) First Second
more_sign lt = refl
more_sign eq = refl
more_sign gt = refl

pub greater_side : (o : Ordering) {z : ℤ} {r : Side} → z ≡ sign o → r ≡ cond (int_lt (pos 0) (to_z w8 (of_z w8 z))) First Second → r ≡ cond (is_more o) First Second
greater_side o e h = h ∙ ap (λ z. cond (int_lt (pos 0) (to_z w8 (of_z w8 z))) First Second) e ∙ more_sign o

pub lesser_side : (o : Ordering) → other_side (cond (is_more o) First Second) ≡ cond (is_more o) Second First
lesser_side lt = refl
lesser_side eq = refl
lesser_side gt = refl
