-- Where a key stands against all that start with a prefix: before them, among them or beyond them.
use Prim.Native.Nat.{ℕ}
use mathlib.Core.Path.{◌≡◌, refl, sym, ◌∙◌}
use mathlib.Core.Bool.{Bool, true, false}
use mathlib.Core.List.{List, [], ◌∷◌, ◌++◌}
use mathlib.Core.Ordering.{Ordering, lt, eq, gt}
use Rattle.keys.specs.Order.{order, starts_with}
use Rattle.keys.proofs.Heads.{head_less, head_more, head_same, Three, below, equal, above, three}
use Rattle.keys.proofs.OrderLaws.{order_refl, Starts, starts_means}

-- all that start with p stand alike against k
abbrev pub AllStand : Ordering → List ℕ → List ℕ → Type 0
AllStand o p k = (s : List ℕ) → order (p ++ s) k ≡ o

pub data Place (p k : List ℕ) : Type 0 where
  before : AllStand gt p k → Place p k
  among : Starts p k → Place p k
  beyond : AllStand lt p k → Place p k

after_equal : (o : Ordering) (x y : ℕ) (p k : List ℕ) → x ≡ y → AllStand o p k → AllStand o (x ∷ p) (y ∷ k)
after_equal o x y p k e all s = rw (← e) (head_same x (p ++ s) k ∙ all s)

pub place : (p k : List ℕ) → Place p k
unfolding order
place [] k = among (record { rest = k; is = refl })
place (x ∷ p) [] = before (λ s. refl)
place (x ∷ p) (y ∷ k) = go (place p k) (three x y)
  where
    go : Place p k → Three x y → Place (x ∷ p) (y ∷ k)
    go w (below l) = beyond (λ s. head_less x y (p ++ s) k l)
    go w (above l) = before (λ s. head_more x y (p ++ s) k l)
    go (before all) (equal e) = before (after_equal gt x y p k e all)
    go (beyond all) (equal e) = beyond (after_equal lt x y p k e all)
    go (among s) (equal e) = among (record { rest = s.rest; is = cc s.is })

-- a key that has all of them on one side does not start with the prefix
pub not_among : (o : Ordering) (p k : List ℕ) → (o ≡ eq → ⊥) → AllStand o p k → starts_with p k ≡ false
not_among o p k n all = go (starts_with p k) refl
  where
    go : (b : Bool) → starts_with p k ≡ b → b ≡ false
    go false e = refl
    go true e =
        let s = (starts_means p k).0 e in
        absurd (n (sym (all s.rest) ∙ rw (← s.is) (order_refl k)))
