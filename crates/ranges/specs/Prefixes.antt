-- Increments, prefix ranges and prefixes with a subrange, in document 01's words.
use Rattle.std.specs.Prelude.{ℕ, ◌+◌, ◌-◌, ◌≤◌, ◌<◌, ◌≡◌, cond, List, [], ◌∷◌, ◌++◌, eqb, length, take, get_or, Option as Maybe, Some, None}
use Rattle.std.proofs.Math.Option.{Option, none, some}
use Rattle.kinds.specs.Bounds.{Bound, unbounded, included, excluded}
use Rattle.bounds.specs.Ranges.{Range, range, everything}

-- "Increment: change the last byte that isn't ff to one more and cut after it; none if there is no such byte."
unfoldable pub raised : ℕ → Option (List ℕ) → Option (List ℕ)
raised x (some later) = some (x ∷ later)
raised x none = cond (eqb x 255) none (some ((x + 1) ∷ []))

unfoldable pub increment : List ℕ → Option (List ℕ)
increment [] = none
increment (x ∷ xs) = raised x (increment xs)

-- the first n bytes have the same increment, by raising the last of them
pub record RaisesAt (p : List ℕ) (n : ℕ) : Type 0 where
  pub within : n ≤ length p
  pub same : increment (take n p) ≡ increment p
  pub given : 0 < n
  pub raisable : get_or p (n - 1) 0 < 255

-- how many bytes that is, and none where there is no increment
abbrev pub Raises : List ℕ → Maybe ℕ → Type 0
Raises p (Some n) = RaisesAt p n
Raises p None = increment p ≡ none

-- no increment is empty, so zero stands for none
abbrev pub unless_zero : ℕ → Maybe ℕ
unless_zero n = cond (eqb n 0) None (Some n)

-- the end that stands above all with a prefix: excluded at its increment, unbounded if there is none
abbrev pub end_at : Option (List ℕ) → Bound
end_at (some k) = excluded k
end_at none = unbounded

-- "Prefix range: the empty prefix gives everything."
abbrev pub prefix_range : List ℕ → Range
prefix_range [] = everything
prefix_range (x ∷ p) = range (included (x ∷ p)) (end_at (increment (x ∷ p)))

-- "Prefix with a subrange of suffixes, built as in `from_prefix_and_subrange`."
abbrev pub sub_start : List ℕ → Bound → Bound
sub_start p (included s) = included (p ++ s)
sub_start p (excluded s) = excluded (p ++ s)
sub_start [] unbounded = unbounded
sub_start (x ∷ p) unbounded = included (x ∷ p)

abbrev pub sub_end : List ℕ → Bound → Bound
sub_end p (included e) = included (p ++ e)
sub_end p (excluded e) = excluded (p ++ e)
sub_end p unbounded = end_at (increment p)

abbrev pub subrange_of : List ℕ → Range → Range
subrange_of p r = range (sub_start p r.start) (sub_end p r.end)
