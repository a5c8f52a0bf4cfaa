-- The number that advances is the larger of the one that was read and the new one.
use Prim.Native.Nat.{ℕ, max}
use mathlib.Core.Path.{◌≡◌, ap, ◌∙◌}
use mathlib.Core.List.{List}
use lib.Seq.{paste}
use Rattle.codec.specs.Formats.{number}
use Rattle.codec.specs.Stands.{Stands}
use Rattle.codec.proofs.RecordLaws.{stands_one}
use Rattle.layout.specs.Offsets.{number_size, last_at, part_at}
use Rattle.edits.specs.Advance.{AdvancedTo}

pub advances : {s s' : List ℕ} {last seq r : ℕ} → Stands (number number_size) s last_at last part_at → r ≡ max last seq → s' ≡ paste s last_at ((number number_size).write r) number_size → AdvancedTo s seq s' r
advances {s} {s'} {last} {seq} {r} w e b =
    record {
      larger = λ l v. e ∙ ap (λ (n : ℕ). max n seq) (stands_one (number number_size) w v);
      bytes = b;
    }
