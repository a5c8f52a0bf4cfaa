-- The lines that are printed, as bytes.
use Rattle.std.specs.Prelude.{ℕ, zero, suc, ◌+◌, ◌/◌, ◌%◌, ◌≡◌, cond, List, [], ◌∷◌, ◌++◌, ltb, length}
use Rattle.std.proofs.Math.Seq.{paste}

-- the decimal digits of n, the highest first and no zero before them: those of n / 10, then the last one; k is more than n, so
-- that it never runs out
unfoldable pub decimal_in : ℕ → ℕ → List ℕ
decimal_in zero n = []
decimal_in (suc k) n = cond (ltb n 10) ((48 + n % 10) ∷ []) (decimal_in k (n / 10) ++ ((48 + n % 10) ∷ []))

unfoldable pub decimal : ℕ → List ℕ
decimal n = decimal_in (suc n) n

-- "For each record one line: status, space, value in decimal."
abbrev pub line_of : ℕ → ℕ → List ℕ
line_of status value = decimal status ++ (32 ∷ []) ++ decimal value ++ (10 ∷ [])

-- "a line: `stop`, space, the record's byte offset in decimal"
abbrev pub stop_line : ℕ → List ℕ
stop_line offset = (115 ∷ 116 ∷ 111 ∷ 112 ∷ 32 ∷ []) ++ decimal offset ++ (10 ∷ [])

-- no line of a status, a value or an offset that fits its bytes is longer: `stop`, a space, 20 digits, and the line's end
abbrev pub line_limit : ℕ
line_limit = 26

-- a text stands from `at` up to r, and no other byte has changed
pub record Put (before : List ℕ) (at : ℕ) (text : List ℕ) (r : ℕ) (after : List ℕ) : Type 0 where
  pub ends : r ≡ at + length text
  pub bytes : after ≡ paste before at text (length text)
