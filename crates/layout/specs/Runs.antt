-- Runs of calls on a room: each call leaves what its contract allows.
use Rattle.std.specs.Prelude.{ℕ, ◌≤◌, ◌≡◌, false, List, [], ◌∷◌, length, take, drop}
use Rattle.machine.specs.State.{Ceilings}
use Rattle.machine.specs.Calls.{Call, is_commit_or_drop}
use Rattle.layout.specs.States.{room_size}
use Rattle.layout.specs.Rooms.{load, ServedBy}

-- the room that is lent next: the bytes within the size are as they were left; how long it is, and what stands beyond, is the host's
abbrev pub LentAgain : Ceilings → List ℕ → List ℕ → Type 0
LentAgain L left room = take (room_size L) room ≡ take (room_size L) left

pub record Then (L : Ceilings) (room : List ℕ) (c : Call) (more : List ℕ → Type 0) : Type 0 where
  pub lent : List ℕ
  pub same : LentAgain L room lent
  pub status : ℕ
  pub value : ℕ
  pub left : List ℕ
  pub served : ServedBy L lent c status value left
  pub rest : more left

-- "any sequence of them, refused ones included", on a room "that only these calls write" and that is "always passed whole"
abbrev pub Passed : Ceilings → List ℕ → List Call → List ℕ → Type 0
Passed L room [] room' = LentAgain L room room'
Passed L room (c ∷ cs) room' = Then L room c (λ left. Passed L left cs room')

-- two results of one call are equal but for "unused bytes inside the room": the bytes of the room behind the state's record
pub record Alike (L : Ceilings) (call : Call) (status value : ℕ) (room : List ℕ) (status' value' : ℕ) (room' : List ℕ) : Type 0 where
  pub statuses : status ≡ status'
  pub values : value ≡ value'
  pub states : load L room ≡ load L room'
  pub refused : 2 ≤ status → room ≡ room'
  pub absent : status ≡ 1 → is_commit_or_drop call ≡ false → room ≡ room'
  pub beyond : drop (room_size L) room ≡ drop (room_size L) room'
  pub size : length room ≡ length room'
