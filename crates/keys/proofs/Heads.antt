-- The order of two byte strings by their first bytes.
use Prim.Native.Nat.{ℕ, ◌<◌, ◌≤◌}
use mathlib.Core.Path.{◌≡◌, refl}
use mathlib.Core.Bool.{Bool, true, false}
use mathlib.Core.List.{List, ◌∷◌}
use mathlib.Core.Ordering.{lt, gt}
use native.Mathlib.Omega.{arith}
use lib.Dec.{ltb}
use borrow.Author.Tests.{lt-ltb, le-ltb, ltb-true, ltb-false}
use Rattle.keys.specs.Order.{order}

pub head_less : (x y : ℕ) (a b : List ℕ) → x < y → order (x ∷ a) (y ∷ b) ≡ lt
unfolding order
head_less x y a b h = rw (lt-ltb x y h)

pub head_more : (x y : ℕ) (a b : List ℕ) → y < x → order (x ∷ a) (y ∷ b) ≡ gt
unfolding order
head_more x y a b h = let k : y ≤ x = omega arith in rw (le-ltb x y k, lt-ltb y x h)

pub head_same : (x : ℕ) (a b : List ℕ) → order (x ∷ a) (x ∷ b) ≡ order a b
unfolding order
head_same x a b = let h : x ≤ x = omega arith in rw (le-ltb x x h)

-- two bytes stand in one of three ways
pub data Three (x y : ℕ) : Type 0 where
  below : x < y → Three x y
  equal : x ≡ y → Three x y
  above : y < x → Three x y

pub three : (x y : ℕ) → Three x y
three x y = go (ltb x y) refl (ltb y x) refl
  where
    go : (s : Bool) → ltb x y ≡ s → (t : Bool) → ltb y x ≡ t → Three x y
    go true p t q = below (ltb-true x y p)
    go false p true q = above (ltb-true y x q)
    go false p false q = equal (omega (arith, ltb-false x y p, ltb-false y x q))
