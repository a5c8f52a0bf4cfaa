-- "advancing keeps the larger of old and new"
use Rattle.std.specs.Prelude.{ℕ, max, ◌≡◌, List}
use Rattle.std.proofs.Math.Seq.{paste}
use Rattle.codec.specs.Formats.{number}
use Rattle.codec.specs.Stands.{Stands}
use Rattle.layout.specs.Offsets.{number_size, last_at, part_at}

pub record AdvancedTo (s : List ℕ) (seq : ℕ) (s' : List ℕ) (r : ℕ) : Type 0 where
  pub larger : (last : ℕ) → Stands (number number_size) s last_at last part_at → r ≡ max last seq
  pub bytes : s' ≡ paste s last_at ((number number_size).write r) number_size
