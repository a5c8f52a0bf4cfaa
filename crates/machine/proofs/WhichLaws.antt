-- A transaction with another set in the place of its writes or its reads: what it counts then, and when it is the same one.
use Prim.Native.Nat.{ℕ, ◌+◌, ◌≤◌}
use mathlib.Core.Path.{◌≡◌, refl, ap, ◌∙◌}
use mathlib.Core.List.{List}
use native.Mathlib.Omega.{arith}
use lib.ListN.{length}
use Rattle.machine.specs.declared.Which.{Which}
use Rattle.machine.specs.declared.Which.TheVariants.{Writes, Reads}
use Rattle.machine.specs.State.{Bytes, Txn, set_of, with_set, set_bytes, txn_marks, txn_bytes}

pub set_marks : (w : Which) (ks : List Bytes) (t : Txn) (m : ℕ) → length ks ≡ length (set_of w t) + m → txn_marks (with_set w ks t) ≡ txn_marks t + m
set_marks Writes ks t m e = omega (arith, e)
set_marks Reads ks t m e = omega (arith, e)

pub set_bytes_lem : (w : Which) (ks : List Bytes) (t : Txn) (b : ℕ) → set_bytes ks ≡ set_bytes (set_of w t) + b → txn_bytes (with_set w ks t) ≡ txn_bytes t + b
set_bytes_lem Writes ks t b e = omega (arith, e)
set_bytes_lem Reads ks t b e = omega (arith, e)

pub set_counts : (w : Which) (t : Txn) → (length (set_of w t) ≤ txn_marks t) × (set_bytes (set_of w t) ≤ txn_bytes t)
set_counts Writes t = (omega arith, omega arith)
set_counts Reads t = (omega arith, omega arith)

own_set : (w : Which) (t : Txn) → with_set w (set_of w t) t ≡ t
own_set Writes t = refl
own_set Reads t = refl

pub set_same : (w : Which) (ks : List Bytes) (t : Txn) → ks ≡ set_of w t → with_set w ks t ≡ t
set_same w ks t e = ap (λ l. with_set w l t) e ∙ own_set w t
