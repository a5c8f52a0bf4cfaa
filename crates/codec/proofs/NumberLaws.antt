-- The number at a place, for every width: what is read there, and what is written.
use Rattle.std.proofs.Common.{ℕ, zero, suc, ◌+◌, ◌-◌, ◌*◌, ◌/◌, ◌%◌, ◌^◌, ◌≤◌, ◌<◌, ◌≡◌, List, [], ◌∷◌, ◌++◌, length, take, drop, replicate, get_or, refl, sym, ap, ◌∙◌, arith, add-one, append-nil, drop-cons, length-append, lt-ltb, take_all}
use mathlib.Core.Path.{ap₂}
use Rattle.std.proofs.Math.Nat.{add-zero, div-div-eq-div-mul, div-eq_of_lt, pow-le-pow_right, pow-succ'}
use Rattle.std.proofs.lemmas.List.{drop-replicate, drop_all, length-replicate, take-replicate, take_at}
use Rattle.std.proofs.lemmas.Nat.{from_be_bytes-to_be_bytes_8}
use Rattle.std.specs.Int.{byte_at, bytes_high_first, from_be_bytes, w64}
use borrow.Rule.Slice.PartMut.{put_mid}
use Rattle.codec.specs.Codec.{item, read_number, write_number}
use Rattle.codec.specs.Formats.{number}
use Rattle.codec.specs.Stands.{Stands}

-- the number that k bytes from a place on make, the highest first
abbrev pub value_at : ℕ → List ℕ → ℕ → ℕ
value_at zero s at = 0
value_at (suc zero) s at = get_or s at 0
value_at (suc (suc k)) s at = value_at (suc k) s at * 256 + get_or s (at + suc k) 0

module _ (s : List ℕ) (at : ℕ) (small : (i : ℕ) → get_or s i 0 < 256) where
  reads_value : (k : ℕ) → at + k ≤ length s → read_number k (drop at s) ≡ item (value_at k s at) (drop (at + k) s)
  unfolding read_number
  reads_value zero h = rw (add-zero at)
  reads_value (suc zero) h =
      let e : suc at ≡ at + 1 = omega arith in
      let z : 0 * 256 + get_or s at 0 ≡ get_or s at 0 = omega arith in
      rw (drop-cons s at 0 (omega arith), lt-ltb (get_or s at 0) 256 (small at), e, z)
  reads_value (suc (suc k)) h =
      let e : suc (at + suc k) ≡ at + suc (suc k) = omega arith in
      rw (reads_value (suc k) (omega arith), drop-cons s (at + suc k) 0 (omega arith), lt-ltb (get_or s (at + suc k) 0) 256 (small (at + suc k)), e)

-- the one law behind every reader of a number
pub stands_number : (k : ℕ) (s : List ℕ) (at r : ℕ) → at + k ≤ length s → ((i : ℕ) → get_or s i 0 < 256) → r ≡ value_at k s at → Stands (number k) s at r (at + k)
unfolding number
stands_number k s at r h small e = record { reads = reads_value s at small k h ∙ ap (λ (n : ℕ). item n (drop (at + k) s)) (sym e) }

pub number_below : (k : ℕ) {s : List ℕ} {at n e : ℕ} → Stands (number k) s at n e → n < 256 ^ k
unfolding number
number_below k {s} {at} {n} {e} w = ((number k).read_is (drop at s) n (drop e s) w.reads).1

pub length_number : (k n : ℕ) → length ((number k).write n) ≡ k
unfolding number write_number
length_number zero n = refl
length_number (suc k) n = length-append (write_number k (n / 256)) (n % 256 ∷ []) ∙ rw (length_number k (n / 256)) (add-one k)

-- ---- the bytes of a number as std writes them

byte_of_quotient : (k n : ℕ) → byte_at k (n / 256) ≡ byte_at (suc k) n
byte_of_quotient zero n = refl
byte_of_quotient (suc k) n = ap (λ (m : ℕ). m % 256) (div-div-eq-div-mul n 256 (256 ^ suc k) ∙ ap (λ (m : ℕ). n / m) (sym (pow-succ' 256 (suc k))))

bytes_snoc : (k n : ℕ) → bytes_high_first k (n / 256) ++ (n % 256 ∷ []) ≡ bytes_high_first (suc k) n
bytes_snoc zero n = refl
bytes_snoc (suc k) n = ap₂ (λ (b : ℕ) (l : List ℕ). b ∷ l) (byte_of_quotient k n) (bytes_snoc k n)

bytes_written : (k n : ℕ) → write_number k n ≡ bytes_high_first k n
unfolding write_number
bytes_written zero n = refl
bytes_written (suc k) n = rw (bytes_written k (n / 256)) (bytes_snoc k n)

pub number_bytes : (k n : ℕ) → (number k).write n ≡ bytes_high_first k n
unfolding number
number_bytes k n = bytes_written k n

last_bytes : (k n m x : ℕ) → m ≡ k + n → drop k (bytes_high_first m x) ≡ bytes_high_first n x
last_bytes zero n m x e = let f : m ≡ n = omega arith in rw f
last_bytes (suc k) n zero x e = absurd (omega arith)
last_bytes (suc k) n (suc m) x e = last_bytes k n m x (omega arith)

byte_zero : (k x : ℕ) → x < 256 ^ k → byte_at k x ≡ 0
byte_zero zero x h = omega arith
byte_zero (suc k) x h = let e : x / 256 ^ suc k ≡ 0 = div-eq_of_lt h in rw e

zeros_first : (k n m x : ℕ) → m ≡ k + n → x < 256 ^ n → replicate k 0 ++ bytes_high_first n x ≡ bytes_high_first m x
zeros_first zero n m x e h = let f : m ≡ n = omega arith in rw f
zeros_first (suc k) n zero x e h = absurd (omega arith)
zeros_first (suc k) n (suc m) x e h =
    let top : byte_at m x ≡ 0 = byte_zero m x (omega (arith, pow-le-pow_right {n = 256} (omega arith) {i = n} {j = m} (omega arith))) in
    rw top (ap (λ (l : List ℕ). 0 ∷ l) (zeros_first k n m x (omega arith) h))

-- the one law behind every writer of a number: the last n of its eight bytes
pub low_bytes : (n x : ℕ) → n ≤ 8 → take (8 - (8 - n)) (drop (8 - n) (bytes_high_first 8 x)) ≡ (number n).write x
unfolding number
low_bytes n x h =
    let e : 8 - (8 - n) ≡ n = omega arith in
    let l : length (write_number n x) ≤ n = omega (arith, length_number n x) in
    rw (e, last_bytes (8 - n) n 8 x (omega arith), ← bytes_written n x) (take_all n (write_number n x) l)

-- the one law behind every reader of a number: its n bytes behind zeros
pub read_is : (n : ℕ) (s : List ℕ) (at : ℕ) (ys : List ℕ) (r : ℕ) → n ≤ 8 → at + n ≤ length s → ((i : ℕ) → get_or s i 0 < 256) → ys ≡ take n (drop at s)
    → r ≡ from_be_bytes w64 (put_mid (8 - n) (8 - (8 - n)) (replicate 8 0) ys) → Stands (number n) s at r (at + n)
unfolding number
read_is n s at ys r h k small e f =
    let x : ℕ = value_at n s at in
    let w : Stands (number n) s at x (at + n) = stands_number n s at x k small refl in
    let o = (number n).read_is (drop at s) x (drop (at + n) s) w.reads in
    let l : length (write_number n x) ≡ n = length_number n x in
    let g : ys ≡ bytes_high_first n x = e ∙ ap (take n) o.0 ∙ take_at (write_number n x) (drop (at + n) s) n l ∙ bytes_written n x in
    let z : put_mid (8 - n) (8 - (8 - n)) (replicate 8 0) ys ≡ bytes_high_first 8 x =
    rw (take-replicate {X = ℕ} (8 - n) 8 0 (omega arith), drop-replicate {X = ℕ} (8 - n) 8 0, drop_all {X = ℕ} (8 - (8 - n)) (replicate (8 - (8 - n)) 0) (omega (arith, length-replicate {A = ℕ} (8 - (8 - n)) 0)), append-nil, g)
    (zeros_first (8 - n) n 8 x (omega arith) o.1) in
    let b : x < 256 ^ 8 = omega (arith, o.1, pow-le-pow_right {n = 256} (omega arith) {i = n} {j = 8} h) in
    stands_number n s at r k small (f ∙ ap (from_be_bytes w64) z ∙ from_be_bytes-to_be_bytes_8 x b)
