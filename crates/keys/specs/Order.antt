-- The order of byte strings, from Rust's page on `Ord`, "Lexicographical comparison", which its page on slices names.
use Rattle.std.specs.Prelude.{ℕ, Bool, true, false, cond, ◌&&◌, List, [], ◌∷◌, ltb, eqb, ℤ, pos, negsuc}
use mathlib.Core.Ordering.{Ordering, lt, eq, gt}

-- "Two sequences are compared element by element. The first mismatching element defines which sequence is
-- lexicographically less or greater than the other. If one sequence is a prefix of another, the shorter sequence is
-- lexicographically less than the other. If two sequences have equivalent elements and are of the same length, then the
-- sequences are lexicographically equal."
unfoldable pub order : List ℕ → List ℕ → Ordering
order [] [] = eq
order [] (y ∷ ys) = lt
order (x ∷ xs) [] = gt
order (x ∷ xs) (y ∷ ys) = cond (ltb x y) lt (cond (ltb y x) gt (order xs ys))

-- "Every comparison answers -1, 0 or 1."
abbrev pub sign : Ordering → ℤ
sign lt = negsuc 0
sign eq = pos 0
sign gt = pos 1

-- `a < b`, `a > b`, `a == b`, `a <= b` of a comparison's answer
abbrev pub is_less : Ordering → Bool
is_less lt = true
is_less eq = false
is_less gt = false

abbrev pub is_more : Ordering → Bool
is_more lt = false
is_more eq = false
is_more gt = true

abbrev pub is_same : Ordering → Bool
is_same lt = false
is_same eq = true
is_same gt = false

abbrev pub not_more : Ordering → Bool
not_more lt = true
not_more eq = true
not_more gt = false

-- Rust's page on slices, `starts_with`: "Returns true if `needle` is a prefix of the slice."
unfoldable pub starts_with : List ℕ → List ℕ → Bool
starts_with [] key = true
starts_with (x ∷ xs) [] = false
starts_with (x ∷ xs) (y ∷ ys) = eqb x y && starts_with xs ys
