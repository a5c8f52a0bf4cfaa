-- What a splice makes of some bytes.
use Rattle.std.specs.Prelude.{ℕ, ◌+◌, ◌-◌, ◌≡◌, List, ◌++◌, length, take, drop}

-- how many bytes are used where `gone` of `used` bytes have made room for those of src
abbrev pub used_after : ℕ → ℕ → List ℕ → ℕ
used_after used gone src = used - gone + length src

-- in the used bytes of s the `gone` bytes at `at` are replaced by src; every byte past the new end is the one that was at its place before
pub record Spliced (s : List ℕ) (used at gone : ℕ) (src s' : List ℕ) : Type 0 where
  pub bytes : take (used_after used gone src) s' ≡ take at s ++ (src ++ drop (at + gone) (take used s))
  pub after : drop (used_after used gone src) s' ≡ drop (used_after used gone src) s
  pub size : length s' ≡ length s
