-- When reading stops short of filling its place.
use Rattle.std.specs.Prelude.{ℕ, ◌<◌, List, length, Option}
use Rattle.std.specs.Io.KnownBytes.{IsAtEnd}

-- fewer bytes than there is place for come only where the input is at its end
abbrev pub EndsIfShort : ℕ → List ℕ → Option (List ℕ) → Type 0
EndsIfShort n bytes left = n < length bytes → IsAtEnd left
