-- The bounds of a prefix's subrange as code makes them.
use Prim.Native.Nat.{ℕ, ◌≤◌}
use mathlib.Core.Path.{◌≡◌, refl}
use mathlib.Core.Bool.{true, false}
use mathlib.Core.List.{List, ◌++◌}
use mathlib.Core.Option.{Option, none, some}
use native.Mathlib.Omega.{arith}
use borrow.Author.Tests.{le-ltb}
use lib.ListN.{length}
use Rattle.keys.specs.Limit.{key_limit}
use Rattle.kinds.specs.declared.kind.Kind.{Kind}
use Rattle.kinds.specs.declared.kind.Kind.TheVariants.{Unbounded, Included, Excluded}
use Rattle.kinds.specs.Bounds.{bound, is_bounded}
use Rattle.std.specs.Prelude.{Ok}
use Rattle.ranges.specs.Made.{made_of, made_bound}
use Rattle.ranges.specs.Prefixes.{increment, end_at, sub_end}
use Rattle.ranges.proofs.IncrementLaws.{increment_fits}

module _ (p s : List ℕ) where
  pub end_bounded : (k : Kind) → is_bounded k ≡ true → bound k (p ++ s) ≡ sub_end p (bound k s)
  end_bounded Unbounded e = cc
  end_bounded Included e = refl
  end_bounded Excluded e = refl

-- an increment of a prefix within the limit is within it
short_end : (o : Option (List ℕ)) → ((k : List ℕ) → o ≡ some k → length k ≤ key_limit) → Ok (made_of (end_at o)) ≡ made_bound (end_at o)
short_end none h = refl
short_end (some k) h = rw (le-ltb key_limit (length k) (h k refl))

pub end_open : (p s : List ℕ) (k : Kind) → is_bounded k ≡ false → length p ≤ key_limit → Ok (made_of (end_at (increment p))) ≡ made_bound (sub_end p (bound k s))
end_open p s Unbounded e h = short_end (increment p) (λ k f. omega (arith, increment_fits p k f))
end_open p s Included e h = cc
end_open p s Excluded e h = cc
