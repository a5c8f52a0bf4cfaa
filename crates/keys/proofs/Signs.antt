-- What a caller's test of a comparison's answer says of the definition's.
use mathlib.Core.Path.{◌≡◌, refl, sym, ◌∙◌}
use mathlib.Core.Bool.{Bool}
use mathlib.Core.Ordering.{Ordering, lt, eq, gt}
use lib.IntN.{ℤ, pos}
use lib.Signed.{lt_z}
use mir.Syntax.{w8}
use mir.Val.{to_z, of_z}
use Rattle.keys.specs.Order.{sign, is_less}

pub lt_sign : (s : Ordering) → lt_z (to_z w8 (of_z w8 (sign s))) (pos 0) ≡ is_less s
lt_sign lt = refl
lt_sign eq = refl
lt_sign gt = refl

-- the same for a branch: the test was taken (t is true) or left (t is false)
pub on_lt : (s : Ordering) {r : ℤ} {t : Bool} → r ≡ sign s → lt_z (to_z w8 (of_z w8 r)) (pos 0) ≡ t → is_less s ≡ t
on_lt s e h = sym (lt_sign s) ∙ (rw e at h)
