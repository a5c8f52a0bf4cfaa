-- What keys that are added do to the totals of a set.
use Prim.Native.Nat.{◌+◌}
use mathlib.Core.Path.{◌≡◌}
use mathlib.Core.List.{List, ◌∷◌, ◌++◌}
use native.Mathlib.Omega.{arith}
use lib.ListN.{length, length-append}
use Rattle.machine.specs.Lists.{sum}
use Rattle.machine.specs.State.{Bytes, set_bytes}
use Rattle.machine.proofs.ListLaws.{sum_append}

-- a key more among others
module _ (less : List Bytes) (k : Bytes) (more : List Bytes) where
  pub one_more : length (less ++ (k ∷ more)) ≡ length (less ++ more) + 1
  one_more = omega (arith, length-append less (k ∷ more), length-append less more)

  pub bytes_more : set_bytes (less ++ (k ∷ more)) ≡ set_bytes (less ++ more) + length k
  unfolding sum
  bytes_more = omega (arith, sum_append length less (k ∷ more), sum_append length less more)
