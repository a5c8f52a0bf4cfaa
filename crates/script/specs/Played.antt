-- Records served one after the other, and the lines of their answers.
use Rattle.std.specs.Prelude.{ℕ, ◌+◌, ◌-◌, ◌*◌, ◌≤◌, ◌<◌, ◌≡◌, false, List, [], ◌∷◌, ◌++◌, length, take, drop}
use Rattle.fields.specs.Fields.{field_head}
use Rattle.script.specs.Lines.{line_of, stop_line, line_limit}
use Rattle.script.specs.Stream.{next, whole, is_whole}
use Rattle.script.specs.Records.{MoreAt, StopAt}
use Rattle.layout.specs.Rooms.{Served}
use Rattle.script.specs.Script.{called}
use Rattle.script.specs.declared.feed.End.{End}
use Rattle.script.specs.declared.feed.Fed.{Fed}

-- records at the front of some bytes, served on a room one after the other: "For each record one line", in their order; then the
-- bytes that follow them, and the room that they left
pub data Played (room bs : List ℕ) : List ℕ → List ℕ → List ℕ → Type 0 where
  still : Played room bs [] bs room
  onward : {text rest left p rest' left' : List ℕ} {tag status value : ℕ} → Played room bs text rest left → next rest ≡ whole tag p rest' → Served left (called tag p) status value left' → Played room bs (text ++ line_of status value) rest' left'

-- "An unknown tag, a payload above 32,768 or a cut record ends the run with a line: `stop`, space, the record's byte offset in
-- decimal.": where bytes are left
abbrev pub end_line : ℕ → List ℕ → List ℕ
end_line offset [] = []
end_line offset (b ∷ bs) = stop_line offset

-- all that a script prints on a room, where its bytes begin at an offset of the input: the lines of its records until no whole one
-- follows, and the line that ends the run
pub record Prints (offset : ℕ) (room bs text : List ℕ) : Type 0 where
  pub lines : List ℕ
  pub rest : List ℕ
  pub left : List ℕ
  pub played : Played room bs lines rest left
  pub over : is_whole (next rest) ≡ false
  pub all : text ≡ lines ++ end_line (offset + (length bs - length rest)) rest

-- what feeding left: the records before `at` were served, and their lines are the first `put` bytes
pub record FedTo (room bs out : List ℕ) (at put : ℕ) (room' out' : List ℕ) : Type 0 where
  pub inside : at ≤ length bs
  pub fits : put ≤ length out
  pub played : Played room bs (take put out') (drop at bs) room'
  pub kept : drop put out' ≡ drop put out
  pub size : length out' ≡ length out
  -- a record has `field_head` bytes or more, a line `line_limit` or fewer
  pub rate : field_head * put ≤ line_limit * at

-- feeding ends at a record that is not whole yet, at one that ends the run, or where there is no place for the longest line
abbrev pub EndsAt : List ℕ → List ℕ → ℕ → ℕ → End → Type 0
EndsAt bs out at put End.More = MoreAt bs at
EndsAt bs out at put End.Stop = StopAt bs at
EndsAt bs out at put End.Full = length out < put + line_limit

abbrev pub FedIs : List ℕ → List ℕ → List ℕ → Fed → List ℕ → List ℕ → Type 0
FedIs room bs out r room' out' = FedTo room bs out r.at r.put room' out' × EndsAt bs out r.at r.put r.end
