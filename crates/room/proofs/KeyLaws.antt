-- A key stands where its length does and so many bytes, and is its own label; for any key limit.
use Prim.Native.Nat.{ℕ, ◌+◌, ◌-◌, ◌≤◌, ◌<◌, min}
use mathlib.Core.Path.{◌≡◌, refl, sym}
use mathlib.Core.Bool.{Bool, true, false}
use mathlib.Core.List.{List}
use native.Mathlib.Omega.{arith}
use borrow.Author.Tests.{le-leb, lt-leb, ltb-true, ltb-false}
use lib.Dec.{ltb}
use lib.ListN.{length, take, drop, length-drop}
use lib.Seq.{drop-drop, length-take-le}
use Rattle.codec.specs.Codec.{cut}
use Rattle.codec.specs.Formats.{number, raw, bind, only, via}
use Rattle.codec.specs.Stands.{Stands}
use Rattle.codec.proofs.NumberLaws.{length_number}
use Rattle.codec.proofs.RecordLaws.{too_short}
use Rattle.layout.specs.Offsets.{length_size}
use Rattle.layout.specs.Keys.{key_form}
use Rattle.room.specs.Counts.{a_key}
use Rattle.room.specs.Walks.{Got, Missing}

pub number_short : (k : ℕ) (s : List ℕ) (at : ℕ) → length s - at < k → (number k).read (drop at s) ≡ cut
number_short k s at h = too_short (number k) k (λ a o. omega (arith, length_number k a)) (drop at s) (rw (length-drop at s) h)

-- ---- keys

module _ (m : ℕ) (s : List ℕ) (at : ℕ) where
  pub key_short : length s - at < length_size → Missing (key_form m) s at
  unfolding key_form via bind only
  key_short h = record { reads = rw (number_short length_size s at h) }

  module _ (n : ℕ) (r : Stands (number length_size) s at n (at + length_size)) where
    pub key_long : m < n → Missing (key_form m) s at
    unfolding key_form via bind only
    key_long h = record { reads = rw (r.reads, lt-leb n m h) }

    pub key_cut : n ≤ m → length s - at - length_size < n → Missing (key_form m) s at
    unfolding key_form via bind only raw
    key_cut h k =
        let l : length (drop (at + length_size) s) < n = rw (length-drop (at + length_size) s) (omega arith) in
        record { reads = rw (r.reads, le-leb n m h, lt-leb n (length (drop (at + length_size) s)) l) }

    pub key_over : min m (length s - at - length_size) < n → Missing (key_form m) s at
    key_over h = go (ltb m n) refl
      where
        go : (b : Bool) → ltb m n ≡ b → Missing (key_form m) s at
        go true e = key_long (ltb-true m n e)
        go false e = key_cut (ltb-false m n e) (omega (arith, h, ltb-false m n e))

    pub key_got : n ≤ m → at + length_size + n ≤ length s → Got (a_key m) s at (record { end = at + length_size + n; marks = 1; bytes = n; high = 0 })
    unfolding key_form via bind only raw
    key_got h k =
        let l : n ≤ length (drop (at + length_size) s) = rw (length-drop (at + length_size) s) (omega arith) in
        record {
          val = take n (drop (at + length_size) s);
          fills = record {
            stands = record { reads = rw (r.reads, le-leb n m h, le-leb n (length (drop (at + length_size) s)) l, drop-drop n (at + length_size) s) };
            from = omega arith;
            inside = k;
          };
          marks = refl;
          bytes = sym (length-take-le n (drop (at + length_size) s) l);
          high = refl;
          fits = omega arith;
        }
