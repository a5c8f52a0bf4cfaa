-- The marks of a transaction as one list, in the order in which check looks at them.
use Rattle.std.specs.Prelude.{Bool, List, ◌++◌, map}
use Rattle.bounds.specs.Ranges.{Range, holds}
use Rattle.machine.specs.State.{Bytes, Txn}
use Rattle.machine.specs.Sets.{equal}

-- "A mark is one key in one set (active or entry) or one range."
pub data Mark : Type 0 where
  key : Bytes → Mark
  range : Range → Mark

abbrev pub meets : Bytes → Mark → Bool
meets k (key m) = equal k m
meets k (range r) = holds r k

-- writes, then reads, then ranges
abbrev pub listed : List Bytes → List Bytes → List Range → List Mark
listed ws rs gs = map key ws ++ (map key rs ++ map range gs)

abbrev pub marks_of : Txn → List Mark
marks_of t = listed t.writes t.reads t.ranges
