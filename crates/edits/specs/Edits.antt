-- What a fresh room is written as, and the heads of an emptied one.
use Rattle.std.specs.Prelude.{ℕ, ◌+◌, ◌≡◌, List, ◌++◌}
use Rattle.std.proofs.Math.Seq.{paste}
use Rattle.machine.specs.State.{fresh_state}
use Rattle.codec.specs.Formats.{number}
use Rattle.layout.specs.Offsets.{number_size, count_size, last_at, entries_at, any_length}
use Rattle.layout.specs.States.{plain_form}

-- the record of the fresh state stands at the front
pub record Freshened (s : List ℕ) (n : ℕ) (s' : List ℕ) : Type 0 where
  pub bytes : s' ≡ paste s 0 ((plain_form any_length).write (fresh_state n)) entries_at

-- behind the stamp stand the number and two counts of 0, and every other byte is as it was
pub record HeadsEmptied (s : List ℕ) (last : ℕ) (s' : List ℕ) : Type 0 where
  pub bytes : s' ≡ paste s last_at ((number number_size).write last ++ ((number count_size).write 0 ++ (number count_size).write 0)) (number_size + (count_size + count_size))
