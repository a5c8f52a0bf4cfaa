-- Prefix ranges: "the empty prefix gives everything. A key lies in it exactly when it starts with the prefix."
use Prim.Native.Nat.{ℕ}
use mathlib.Core.Path.{◌≡◌, refl, ap, ◌∙◌}
use mathlib.Core.Bool.{true, and-true}
use mathlib.Core.List.{List, [], ◌∷◌, append-nil}
use mathlib.Core.Option.{Option, none, some}
use Rattle.keys.specs.Order.{starts_with, is_less}
use Rattle.kinds.specs.Bounds.{included}
use Rattle.bounds.specs.Ranges.{range, everything, holds, not_empty}
use Rattle.ranges.specs.Bytes.{Bytes}
use Rattle.ranges.specs.Prefixes.{increment, end_at, prefix_range, subrange_of}
use Rattle.ranges.proofs.Least.{above_all}
use Rattle.ranges.proofs.SubrangeLaws.{subrange_holds}

-- a prefix range is the prefix with every suffix
pub prefix_is_subrange : (p : List ℕ) → prefix_range p ≡ subrange_of p everything
unfolding increment
prefix_is_subrange [] = refl
prefix_is_subrange (x ∷ p) = refl

pub prefix_holds : (p k : List ℕ) → Bytes k → holds (prefix_range p) k ≡ starts_with p k
prefix_holds p k b = ap (λ r. holds r k) (prefix_is_subrange p) ∙ subrange_holds p k everything b ∙ and-true (starts_with p k)

-- so that making one is never refused as empty
pub prefix_not_empty : (p : List ℕ) → not_empty (prefix_range p) ≡ true
prefix_not_empty [] = refl
prefix_not_empty (x ∷ p) = go (increment (x ∷ p)) refl
  where
    go : (o : Option (List ℕ)) → increment (x ∷ p) ≡ o → not_empty (range (included (x ∷ p)) (end_at o)) ≡ true
    go none e = refl
    go (some k) e = rw append-nil at (ap is_less (above_all (x ∷ p) k e []))
