-- A new range's answer, by the kinds that it was asked for.
use Prim.Native.Nat.{ℕ}
use mathlib.Core.Path.{◌≡◌, refl, sym}
use mathlib.Core.Bool.{Bool, true, false, cond, ◌||◌}
use mathlib.Core.List.{List}
use Rattle.std.specs.Prelude.{Ok, Err}
use Rattle.kinds.specs.declared.kind.Kind.{Kind}
use Rattle.kinds.specs.Bounds.{bound}
use Rattle.bounds.specs.Ranges.{range, not_empty}
use Rattle.ranges.specs.declared.made.RangeError.TheVariants.{LongKey, EmptyRange}
use Rattle.ranges.specs.Made.{too_long}
use Rattle.ranges.specs.Making.{kinds_of, new_of}
use Rattle.ranges.proofs.MakingLaws.{kind_back}
use Rattle.stranvek.specs.Answers.{new_range, ranged}

-- the kinds that a new range has are those that it was asked for
module _ (k l : Kind) (x y : List ℕ) where
  pub new_kinds : ranged (new_of (range (bound k x) (bound l y))) ≡ new_range (new_of (range (bound k x) (bound l y))) k l
  unfolding new_of
  new_kinds = go (too_long (bound k x) || too_long (bound l y)) (not_empty (range (bound k x) (bound l y)))
    where
      go : (long given : Bool) → ranged (cond long (Err LongKey) (cond given (Ok (kinds_of (range (bound k x) (bound l y)))) (Err EmptyRange))) ≡ new_range (cond long (Err LongKey) (cond given (Ok (kinds_of (range (bound k x) (bound l y)))) (Err EmptyRange))) k l
      go true given = refl
      go false true = λ i. new_range (Ok (kinds_of (range (bound k x) (bound l y)))) (sym (kind_back k x) i) (sym (kind_back l y) i)
      go false false = refl
