-- Which marks are left at a place among the marks of a transaction, and what the search promises.
use Rattle.std.specs.Prelude.{ℕ, ◌+◌, ◌≡◌, Bool, List, ◌∷◌, length}
use Rattle.bounds.specs.Ranges.{Range}
use Rattle.machine.specs.State.{Bytes, Txn, Entry}
use Rattle.machine.specs.Sets.{conflict}
use Rattle.layout.specs.Offsets.{any_length}
use Rattle.layout.specs.Keys.{key_form, range_form}
use Rattle.layout.specs.Records.{entry_form, txn_form}
use Rattle.layout.specs.Rows.{Fills, Row}
use Rattle.places.specs.Cursors.{Before}
use Rattle.search.specs.declared.marks.Marks.{Marks}
use Rattle.search.specs.Marks.{Mark, meets, listed, marks_of}

-- the marks of ms are left: writes, then reads, then ranges
pub record Left (s : List ℕ) (c : Marks) (ms : List Mark) : Type 0 where
  pub writes : List Bytes
  pub reads : List Bytes
  pub ranges : List Range
  pub writes_left : Before (key_form any_length) s c.writes writes
  pub reads_left : Before (key_form any_length) s c.reads reads
  pub ranges_left : Before (range_form any_length) s c.ranges ranges
  pub all : ms ≡ listed writes reads ranges

abbrev pub marks_left : Marks → ℕ
marks_left c = c.writes.left + c.reads.left + c.ranges.left

-- some mark is left
pub record Stays (s : List ℕ) (c : Marks) : Type 0 where
  pub first : Mark
  pub rest : List Mark
  pub left : Left s c (first ∷ rest)

-- before the marks of the transaction at a place
pub record MarksAt (s : List ℕ) (txn : ℕ) (c : Marks) : Type 0 where
  pub is : (t : Txn) (e : ℕ) → Fills (txn_form any_length) s txn t e → Left s c (marks_of t)

pub record Nexts (s : List ℕ) (c d : Marks) : Type 0 where
  pub is : (m : Mark) (ms : List Mark) → Left s c (m ∷ ms) → Left s d ms

pub record Meets (s : List ℕ) (c : Marks) (k : Bytes) (r : Bool) : Type 0 where
  pub is : (m : Mark) (ms : List Mark) → Left s c (m ∷ ms) → r ≡ meets k m

-- document 01's check, on the entries and the transaction that stand at these places
pub record Searched (s : List ℕ) (at entries txn : ℕ) (r : Bool) : Type 0 where
  pub is : (es : List Entry) (e : ℕ) (t : Txn) (f : ℕ) → Row (entry_form any_length) s at es e → length es ≡ entries
      → Fills (txn_form any_length) s txn t f → r ≡ conflict t es
