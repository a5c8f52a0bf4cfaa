-- Demand 1 on a room's bytes: which status a call gets, in the words of document 01's table, and what comes with it.
use Rattle.std.specs.Prelude.{ℕ, ◌≤◌, ◌<◌, ◌^◌, ◌≡◌, false, ◌↔◌, ◌⊎◌, length, drop}
use mathlib.Core.List.{List, [], ◌∷◌, ◌++◌, Memᴰ}
use Rattle.machine.specs.State.{State, Ceilings, fresh_state, MachineState}
use Rattle.machine.specs.Calls.{Op, Call, fresh, on, is_commit_or_drop}
use Rattle.machine.specs.Words.{First, Status, DoneValue, absent_value, absent_state}
use Rattle.layout.specs.Offsets.{number_size}
use Rattle.layout.specs.States.{plain_form, room_size}

-- the room begins with the record of this machine state, whose last number is a 64-bit one
pub record RecordOf (L : Ceilings) (room : List ℕ) (s : State) : Type 0 where
  pub machine : MachineState L s
  pub last : s.last < 256 ^ number_size
  pub rest : List ℕ
  pub is : room ≡ (plain_form L.key).write s ++ rest

abbrev pub TooShort : Ceilings → List ℕ → Type 0
TooShort L room = length room < room_size L

-- 7: "room too short or, save for fresh, not the record of a machine state"
abbrev pub NoState : Ceilings → List ℕ → Call → Type 0
NoState L room (fresh n) = TooShort L room
NoState L room (on c) = TooShort L room ⊎ ((s : State) → RecordOf L room s → ⊥)

-- the rows after 7, for the state that the room records
pub record OnState (L : Ceilings) (room : List ℕ) (c : Op) (n : ℕ) : Type 0 where
  pub now : State
  pub recorded : RecordOf L room now
  pub status : Status L now c n

-- "First in this order wins: 7, 2, 4, 5, then 3 or 1, then 6."
abbrev pub Given : Ceilings → List ℕ → Call → ℕ → Type 0
Given L room (fresh k) = First 7 (NoState L room (fresh k)) (λ n. n ≡ 0)
Given L room (on c) = First 7 (NoState L room (on c)) (OnState L room c)

pub record DoneOn (L : Ceilings) (room : List ℕ) (c : Op) (value : ℕ) (room' : List ℕ) : Type 0 where
  pub before : State
  pub recorded : RecordOf L room before
  pub after : State
  pub left : RecordOf L room' after
  pub is : DoneValue c before after value

-- the value of 0, and a room that records a machine state again; "fresh: given number"
abbrev pub Done : Ceilings → List ℕ → Call → ℕ → List ℕ → Type 0
Done L room (fresh n) value room' = (value ≡ n) × RecordOf L room' (fresh_state n)
Done L room (on c) value room' = DoneOn L room c value room'

pub record AbsentOn (L : Ceilings) (room : List ℕ) (c : Op) (value : ℕ) (room' : List ℕ) : Type 0 where
  pub before : State
  pub recorded : RecordOf L room before
  pub left : RecordOf L room' (absent_state c before)
  pub is : value ≡ absent_value c before
  pub kept : is_commit_or_drop (on c) ≡ false → room' ≡ room

-- the value of 1; "Status 1 leaves the room unchanged except as commit and drop say."
abbrev pub Missed : Ceilings → List ℕ → Call → ℕ → List ℕ → Type 0
Missed L room (fresh n) value room' = ⊥
Missed L room (on c) value room' = AbsentOn L room c value room'

-- the table's numbers
abbrev pub statuses : List ℕ
statuses = 0 ∷ 1 ∷ 2 ∷ 3 ∷ 4 ∷ 5 ∷ 6 ∷ 7 ∷ []

-- "Each ends with a status from document 01's table. Statuses 2 to 7 give value 0 and change no byte of the room, and each is
-- given exactly when 01 says."
pub record Demand1 (L : Ceilings) (room : List ℕ) (call : Call) (status value : ℕ) (room' : List ℕ) : Type 0 where
  pub listed : Memᴰ status statuses
  pub given : (n : ℕ) → (status ≡ n) ↔ Given L room call n
  pub done : status ≡ 0 → Done L room call value room'
  pub absent : status ≡ 1 → Missed L room call value room'
  pub refused : 2 ≤ status → (value ≡ 0) × (room' ≡ room)
  pub beyond : drop (room_size L) room' ≡ drop (room_size L) room
  pub size : length room' ≡ length room
