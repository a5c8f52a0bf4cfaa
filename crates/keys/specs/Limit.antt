-- The key limit, which document 01 adds.
use Rattle.std.specs.Prelude.{ℕ}

-- "A stored key is 0 to 512 bytes"
abbrev pub key_limit : ℕ
key_limit = 512
