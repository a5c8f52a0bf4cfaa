-- What is left of a piece of input to hold until more comes.
use Rattle.std.specs.Prelude.{ℕ, ◌+◌, ◌≤◌, ◌<◌, List, length}
use Rattle.fields.specs.Fields.{field_head}
use Rattle.script.specs.Stream.{payload_limit}

-- less than the longest record is left: a field's head and the payload
pub record Held (piece : List ℕ) (at : ℕ) : Type 0 where
  pub inside : at ≤ length piece
  pub few : length piece < at + field_head + payload_limit
