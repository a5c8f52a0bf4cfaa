-- What an entry of a transaction's writes takes and leaves of a room's bytes, within a commit.
use Rattle.std.specs.Prelude.{ℕ, ◌-◌, ◌≤◌, List, [], ◌++◌, length}
use Rattle.machine.specs.State.{Txn}
use Rattle.codec.specs.Formats.{number}
use Rattle.moves.specs.Splices.{Spliced}
use Rattle.layout.specs.Offsets.{number_size, any_length}
use Rattle.layout.specs.Keys.{set_form}
use Rattle.layout.specs.Records.{txn_form}
use Rattle.layout.specs.Rows.{Fills}
use Rattle.tracks.specs.Drafts.{set_size}

-- the record of a transaction stands from at up to end, behind `middle` and within the used bytes; a draft can hold its writes
pub record Leaving (s : List ℕ) (used middle at end : ℕ) : Type 0 where
  pub one : Txn
  pub fills : Fills (txn_form any_length) s at one end
  pub after : middle ≤ at
  pub within : end ≤ used
  pub inside : used ≤ length s
  pub short : length ((set_form any_length).write one.writes) ≤ set_size

-- "the transaction leaves; its write set becomes the last entry"
pub record EnteredFor (s : List ℕ) (used middle at end seq : ℕ) (t : Txn) (s' : List ℕ) : Type 0 where
  pub rest : List ℕ
  pub leaves : Spliced s used at (end - at) [] rest
  pub enters : Spliced rest (used - (end - at)) middle 0 ((number number_size).write seq ++ (set_form any_length).write t.writes) s'

pub record Entered (s : List ℕ) (used middle at end seq : ℕ) (s' : List ℕ) : Type 0 where
  pub is : (t : Txn) → Fills (txn_form any_length) s at t end → EnteredFor s used middle at end seq t s'
