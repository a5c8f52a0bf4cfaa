-- Texts put one after the other, and how long a line may be.
use Prim.Native.Nat.{ℕ, zero, suc, ◌+◌, ◌/◌, ◌%◌, ◌^◌, ◌≤◌, ◌<◌}
use native.Mathlib.Nat.{pow-suc, le_refl}
use mathlib.Core.Path.{◌≡◌, refl, ap, ◌∙◌}
use mathlib.Core.Bool.{Bool, true, false, cond}
use mathlib.Core.List.{List, [], ◌∷◌, ◌++◌}
use native.Mathlib.Omega.{arith}
use borrow.Author.Tests.{lt-ltb, le-ltb, ltb-true, ltb-false}
use lib.Dec.{ltb}
use lib.ListN.{length, take, drop, length-append}
use lib.Seq.{length-paste, take-paste, drop-paste, take-length}
use Rattle.moves.proofs.SpliceLaws.{paste_on}
use Rattle.layout.specs.Offsets.{number_size}
use Rattle.script.specs.Lines.{decimal_in, decimal, line_of, stop_line, line_limit, Put}

-- ---- decimal digits

abbrev onward : ℕ → List ℕ → List ℕ
onward n high = cond (ltb n 10) ((48 + n % 10) ∷ []) (high ++ ((48 + n % 10) ∷ []))

-- any two bounds above n give the same
enough : (j k n : ℕ) → n < j → n < k → decimal_in j n ≡ decimal_in k n
unfolding decimal_in
enough zero k n h i = absurd (omega arith)
enough (suc j) zero n h i = absurd (omega arith)
enough (suc j) (suc k) n h i = go (ltb n 10) refl (enough j k)
  where
    go : (b : Bool) → ltb n 10 ≡ b → ((m : ℕ) → m < j → m < k → decimal_in j m ≡ decimal_in k m) → onward n (decimal_in j (n / 10)) ≡ onward n (decimal_in k (n / 10))
    go true e ih = rw e
    go false e ih = let m : 10 ≤ n = ltb-false n 10 e in ap (onward n) (ih (n / 10) (omega arith) (omega arith))

pub decimal_low : (n : ℕ) → n < 10 → decimal n ≡ (48 + n % 10) ∷ []
unfolding decimal decimal_in
decimal_low n h = rw (lt-ltb n 10 h)

pub decimal_high : (n : ℕ) → 10 ≤ n → decimal n ≡ decimal (n / 10) ++ ((48 + n % 10) ∷ [])
unfolding decimal decimal_in
decimal_high n h =
    rw (le-ltb n 10 h) (ap (λ (l : List ℕ). l ++ ((48 + n % 10) ∷ [])) (enough n (suc (n / 10)) (n / 10) (omega arith) (omega arith)))

-- a number below the k-th power of ten has at most k digits
pub decimal_short : (k n : ℕ) → n < 10 ^ suc k → length (decimal n) ≤ suc k
decimal_short zero n h = rw (decimal_low n (omega arith)) (omega arith)
decimal_short (suc k) n h = go (ltb n 10) refl (decimal_short k)
  where
    go : (b : Bool) → ltb n 10 ≡ b → ((m : ℕ) → m < 10 ^ suc k → length (decimal m) ≤ suc k) → length (decimal n) ≤ suc (suc k)
    go true e ih = rw (decimal_low n (ltb-true n 10 e)) (omega arith)
    go false e ih =
        let s : n / 10 < 10 ^ suc k = omega (arith, pow-suc 10 (suc k)) in
        rw (decimal_high n (ltb-false n 10 e), length-append (decimal (n / 10)) ((48 + n % 10) ∷ [])) (omega (arith, ih (n / 10) s))

-- ---- texts

pub put_on : {s s' s'' a b : List ℕ} {at m e : ℕ} → Put s at a m s' → Put s' m b e s'' → at + length (a ++ b) ≤ length s → Put s at (a ++ b) e s''
put_on {s} {s'} {s''} {a} {b} {at} {m} {e} p q h =
    let l = length-append a b in
    record {
      ends = omega (arith, p.ends, q.ends, l);
      bytes = q.bytes ∙ rw (p.bytes, p.ends) (paste_on s at a b (omega (arith, l)));
    }

pub put_low : {s s' : List ℕ} {at n d e : ℕ} → n < 10 → d ≡ 48 + n % 10 → Put s at (d ∷ []) e s' → Put s at (decimal n) e s'
put_low {s} {s'} {at} {n} {d} {e} h k p = rw (decimal_low n h, ← k) p

pub put_high : {s s' s'' : List ℕ} {at n d m e : ℕ} → 10 ≤ n → d ≡ 48 + n % 10 → Put s at (decimal (n / 10)) m s' → Put s' m (d ∷ []) e s''
    → at + length (decimal n) ≤ length s → Put s at (decimal n) e s''
put_high {s} {s'} {s''} {at} {n} {d} {m} {e} h k p q r =
    let x : decimal n ≡ decimal (n / 10) ++ (d ∷ []) = rw k (decimal_high n h) in
    rw x (put_on p q (rw (← x) r))

pub room_low : (n at m : ℕ) → n < 10 → at + length (decimal n) ≤ m → at + 1 ≤ m
room_low n at m h r = omega (arith, ap length (decimal_low n h), r)

-- the last digit comes after the others
pub room_high : (n at m : ℕ) → 10 ≤ n → at + length (decimal n) ≤ m → at + length (decimal (n / 10)) + 1 ≤ m
room_high n at m h r =
    omega (arith, ap length (decimal_high n h), length-append (decimal (n / 10)) ((48 + n % 10) ∷ []), r)

-- the bytes up to a text's end are those before it and the text; those behind it stay
module _ {s s' text : List ℕ} {at e : ℕ} (p : Put s at text e s') (h : at + length text ≤ length s) where
  pub put_front : take e s' ≡ take at s ++ text
  put_front = rw (p.ends, p.bytes) (take-paste s at text (length text) (omega arith) (le_refl _) ∙ rw (take-length text))

  pub put_behind : drop e s' ≡ drop e s
  put_behind = rw (p.ends, p.bytes) (drop-paste s at text (length text) (omega arith) (le_refl _))

  pub put_size : length s' ≡ length s
  put_size = rw p.bytes (length-paste s at text (length text) h (le_refl _))

-- ---- lines

pub byte_short : (n : ℕ) → n < 256 → length (decimal n) ≤ 3
byte_short n h = decimal_short 2 n (omega arith)

pub word_short : (n : ℕ) → n < 256 ^ number_size → length (decimal n) ≤ 20
word_short n h = decimal_short 19 n (omega arith)

pub put_answer : {s s1 s2 s3 s4 : List ℕ} {at st v a b c e : ℕ} → at + line_limit ≤ length s → st < 256 → v < 256 ^ number_size
    → Put s at (decimal st) a s1 → Put s1 a (32 ∷ []) b s2 → Put s2 b (decimal v) c s3 → Put s3 c (10 ∷ []) e s4
    → Put s at (line_of st v) e s4
put_answer {s} {s1} {s2} {s3} {s4} {at} {st} {v} {a} {b} {c} {e} r h k p q u w =
    let i = byte_short st h in
    let j = word_short v k in
    let x : length (decimal st ++ (32 ∷ [])) ≡ length (decimal st) + 1 = length-append (decimal st) (32 ∷ []) in
    let y = length-append (decimal st ++ (32 ∷ [])) (decimal v) in
    let z : length (line_of st v) ≡ length (decimal st ++ (32 ∷ []) ++ decimal v) + 1 = length-append (decimal st ++ (32 ∷ []) ++ decimal v) (10 ∷ []) in
    put_on (put_on (put_on p q (omega (arith, i, x))) u (omega (arith, i, j, x, y))) w (omega (arith, i, j, x, y, z))

pub put_end : {s s5 s6 s7 : List ℕ} {at n m c e : ℕ} → at + line_limit ≤ length s → n < 256 ^ number_size
    → Put s at (115 ∷ 116 ∷ 111 ∷ 112 ∷ 32 ∷ []) m s5 → Put s5 m (decimal n) c s6 → Put s6 c (10 ∷ []) e s7 → Put s at (stop_line n) e s7
put_end {s} {s5} {s6} {s7} {at} {n} {m} {c} {e} r k p u w =
    let j = word_short n k in
    let y : length ((115 ∷ 116 ∷ 111 ∷ 112 ∷ 32 ∷ []) ++ decimal n) ≡ 5 + length (decimal n) = length-append (115 ∷ 116 ∷ 111 ∷ 112 ∷ 32 ∷ []) (decimal n) in
    let z : length (stop_line n) ≡ 5 + length (decimal n) + 1 = length-append ((115 ∷ 116 ∷ 111 ∷ 112 ∷ 32 ∷ []) ++ decimal n) (10 ∷ []) ∙ ap (λ (k : ℕ). k + 1) y in
    put_on (put_on p u (omega (arith, j, y))) w (omega (arith, j, z))

-- how long the lines are at most
pub answer_short : (st v : ℕ) → st < 256 → v < 256 ^ number_size → length (line_of st v) ≤ line_limit
answer_short st v h k =
    let i = byte_short st h in
    let j = word_short v k in
    let x = length-append (decimal st) (32 ∷ []) in
    let y = length-append (decimal st ++ (32 ∷ [])) (decimal v) in
    let z = length-append (decimal st ++ (32 ∷ []) ++ decimal v) (10 ∷ []) in
    omega (arith, i, j, x, y, z)

pub stop_short : (n : ℕ) → n < 256 ^ number_size → length (stop_line n) ≤ line_limit
stop_short n k =
    let j = word_short n k in
    let y = length-append (decimal n) (10 ∷ []) in
    omega (arith, j, y)
