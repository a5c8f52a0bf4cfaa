-- A head stands where the stamp does, and the counts behind it are read where they stand.
use Prim.Native.Nat.{ℕ, ◌≤◌}
use mathlib.Core.Path.{◌≡◌}
use mathlib.Core.List.{List}
use borrow.Author.Tests.{eq-eqb, ne_eqb}
use lib.ListN.{length}
use Rattle.codec.specs.Formats.{number, bind, only, via}
use Rattle.codec.specs.Stands.{Stands}
use Rattle.layout.specs.Offsets.{number_size, count_size, last_at, part_at, entry_count_at, active_count_at, entries_at}
use Rattle.layout.specs.Records.{head_form, counts_form, stamp}
use Rattle.room.specs.Walks.{Missing}
use Rattle.room.specs.declared.Top.{Top}
use Rattle.room.specs.Views.{HeadIs}

module _ (s : List ℕ) (n : ℕ) (r : Stands (number number_size) s 0 n last_at) where
  pub head_other : (n ≡ stamp → ⊥) → Missing head_form s 0
  unfolding head_form via bind only
  head_other k = record { reads = rw (r.reads, ne_eqb n stamp k) }

  pub head_is : entries_at ≤ length s → n ≡ stamp → (t : Top) → Stands (number number_size) s last_at t.last part_at
      → Stands (number count_size) s entry_count_at t.entries active_count_at → Stands (number count_size) s active_count_at t.active entries_at → HeadIs s t
  unfolding head_form counts_form via bind only
  head_is h e t a b c = record { head = record { reads = rw (r.reads, eq-eqb n stamp e, a.reads) }; counts = record { reads = rw (b.reads, c.reads) }; inside = h }
