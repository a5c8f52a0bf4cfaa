-- An end admits a key as a start of its kind at that key admits the end's own.
use Prim.Native.Nat.{ℕ}
use mathlib.Core.Path.{◌≡◌, refl}
use mathlib.Core.List.{List}
use Rattle.kinds.specs.declared.kind.Kind.{Kind}
use Rattle.kinds.specs.declared.kind.Kind.TheVariants.{Unbounded, Included, Excluded}
use Rattle.kinds.specs.Bounds.{bound, start_admits, end_admits}

pub end_as_start : (k : Kind) (a b : List ℕ) → start_admits (bound k a) b ≡ end_admits (bound k b) a
end_as_start Unbounded a b = refl
end_as_start Included a b = refl
end_as_start Excluded a b = refl
