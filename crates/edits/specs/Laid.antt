-- The bytes of a room while a call changes it: the heads, the entries and the active ones, whose counts may not be up to date yet.
use Rattle.std.specs.Prelude.{ℕ, ◌≤◌, ◌≡◌, List, ◌++◌, length, take, drop}
use Rattle.machine.specs.State.{Txn, Entry, Ceilings}
use Rattle.codec.specs.Codec.{write_run}
use Rattle.layout.specs.Offsets.{any_length}
use Rattle.layout.specs.Records.{entry_form, txn_form}
use Rattle.layout.specs.States.{Heads, write_heads, room_size}

abbrev pub write_entries : List Entry → List ℕ
write_entries es = write_run (entry_form any_length) es

abbrev pub write_active : List Txn → List ℕ
write_active ts = write_run (txn_form any_length) ts

abbrev pub bytes_of : Heads → List ℕ → List ℕ → List ℕ
bytes_of h es ts = write_heads h ++ (es ++ ts)

-- the first `used` bytes of s are these; s0 is the room at the start, and beyond the size that the ceilings publish s is the same
pub record Laid (L : Ceilings) (s0 s : List ℕ) (used : ℕ) (h : Heads) (es ts : List ℕ) : Type 0 where
  pub bytes : take used s ≡ bytes_of h es ts
  pub short : used ≤ room_size L
  pub beyond : drop (room_size L) s ≡ drop (room_size L) s0
  pub size : length s ≡ length s0
  pub room : room_size L ≤ length s0
