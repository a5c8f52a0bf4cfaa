-- The loop that copies bytes one at a time. Its invariant is a record over plain lists: d is the list at the start, r as it is now.
use Prim.Native.Nat.{ℕ, ◌+◌, ◌≤◌, ◌<◌}
use mathlib.Core.Path.{◌≡◌, refl, ap, ◌∙◌}
use mathlib.Core.List.{List}
use native.Mathlib.Omega.{arith}
use native.Mathlib.Numerals.{add-one}
use lib.ListN.{length, get_or, set, length-set}
use lib.Seq.{paste, paste-suc, paste-zero}

-- i bytes of s are copied in
pub record Copied (d : List ℕ) (at : ℕ) (s r : List ℕ) (i : ℕ) : Type 0 where
  pub below : i ≤ length s
  pub size : length r ≡ length d
  pub now_is : r ≡ paste d at s i

module _ {d : List ℕ} {at : ℕ} {s : List ℕ} where
  pub copy_start : Copied d at s d 0
  copy_start = record { below = omega arith; size = refl; now_is = paste-zero d at s }

  pub copy_next : {r : List ℕ} {i : ℕ} → Copied d at s r i → at + length s ≤ length d → i < length s → Copied d at s (set r (at + i) (get_or s i 0)) (i + 1)
  copy_next {r} {i} v h l =
      record {
        below = omega arith;
        size = length-set r _ _ ∙ v.size;
        now_is = ap (λ (x : List ℕ). set x (at + i) (get_or s i 0)) v.now_is ∙ rw (add-one i) (paste-suc d at s i 0 (omega arith) l);
      }

  pub copy_end : {r : List ℕ} {i : ℕ} → Copied d at s r i → length s ≤ i → r ≡ paste d at s (length s)
  copy_end {r} {i} v h = let e : i ≡ length s = omega arith in rw e at v.now_is
