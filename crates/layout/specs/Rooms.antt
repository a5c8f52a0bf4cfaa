-- What a lent run of bytes is, and the contract of every call on it.
use Rattle.std.specs.Prelude.{ℕ, ◌≤◌, ◌≡◌, false, cond, List, ltb, length, drop}
use Rattle.machine.specs.State.{State, Ceilings, base}
use Rattle.machine.specs.Calls.{Room, short, broken, holding, Call, is_commit_or_drop, replied}
use Rattle.machine.specs.Serve.{serve}
use Rattle.codec.specs.Codec.{Item, item, cut}
use Rattle.layout.specs.States.{state_form, room_size}

abbrev pub in_room : Item State → Room
in_room (item s r) = holding s
in_room cut = broken

-- "room too short or .. not the record of a machine state"
unfoldable pub load : Ceilings → List ℕ → Room
load L bytes = cond (ltb (length bytes) (room_size L)) short (in_room ((state_form L).read bytes))

-- what every call leaves: the answer and the state afterwards are the machine's; "Statuses 2 to 7 .. change no byte of the room";
-- "Status 1 leaves the room unchanged except as commit and drop say."; "Bytes beyond that size are never touched"
pub record ServedBy (L : Ceilings) (room : List ℕ) (call : Call) (status value : ℕ) (room' : List ℕ) : Type 0 where
  pub answers : serve L (load L room) call ≡ replied status value (load L room')
  pub kept : 2 ≤ status → room' ≡ room
  pub absent : status ≡ 1 → is_commit_or_drop call ≡ false → room' ≡ room
  pub beyond : drop (room_size L) room' ≡ drop (room_size L) room
  pub size : length room' ≡ length room

abbrev pub Served : List ℕ → Call → ℕ → ℕ → List ℕ → Type 0
Served = ServedBy base
