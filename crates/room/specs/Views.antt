-- What a lent run of bytes is seen to be: the state that it holds, or that it holds none.
use Rattle.std.specs.Prelude.{ℕ, ◌+◌, ◌≤◌, ◌≡◌, Bool, ◌&&◌, ◌||◌, ◌⊎◌, Option, Some, None, List, leb, ltb, eqb, length}
use Rattle.machine.specs.State.{State, base, marks, key_bytes}
use Rattle.machine.specs.Calls.{short, broken}
use Rattle.codec.specs.Codec.{write_run}
use Rattle.codec.specs.Stands.{Stands}
use Rattle.layout.specs.Offsets.{part_at, entries_at}
use Rattle.layout.specs.Records.{head_form, Counts, counts_form, entry_form}
use Rattle.layout.specs.States.{state_form, room_size}
use Rattle.layout.specs.Rooms.{load}
use Rattle.room.specs.declared.tally.Tally.{Tally}
use Rattle.room.specs.Walks.{Missing}
use Rattle.room.specs.declared.Top.{Top}
use Rattle.room.specs.declared.View.{View}

-- a state's record stands at the front, and a view of it says where its parts stand and what the state counts
pub record Seen (s : List ℕ) (v : View) : Type 0 where
  pub state : State
  pub whole : Stands (state_form base) s 0 state v.used
  pub inside : v.used ≤ length s
  pub size : room_size base ≤ length s
  pub last : v.last ≡ state.last
  pub entries : v.entries ≡ length state.entries
  pub active : v.active ≡ length state.active
  pub middle : v.middle ≡ entries_at + length (write_run (entry_form base.key) state.entries)
  pub marks : v.marks ≡ marks state
  pub bytes : v.bytes ≡ key_bytes state

-- "room too short or .. not the record of a machine state"
pub record HoldsNone (s : List ℕ) : Type 0 where
  pub none : (load base s ≡ short) ⊎ (load base s ≡ broken)

-- the two answers of opening a room
abbrev pub Opening : List ℕ → Option View → Type 0
Opening s (Some v) = Seen s v
Opening s None = HoldsNone s

-- what the part begins with
abbrev pub counts_in : Top → Counts
counts_in t = record { entries = t.entries; active = t.active }

-- the room's head and the counts of its part
pub record HeadIs (s : List ℕ) (t : Top) : Type 0 where
  pub head : Stands head_form s 0 t.last part_at
  pub counts : Stands counts_form s part_at (counts_in t) entries_at
  pub inside : entries_at ≤ length s

-- the head, or that none stands at the front
abbrev pub HeadAt : List ℕ → Option Top → Type 0
HeadAt s (Some t) = HeadIs s t
HeadAt s None = Missing head_form s 0

-- what a head and the totals say of `sound`
abbrev pub soundly : Top → Tally → Bool
soundly top t =
    leb top.active base.active
    && leb top.entries base.entries
    && leb t.marks base.marks
    && leb t.bytes base.bytes
    && (leb t.high top.last && (ltb 0 top.active || eqb top.entries 0))
