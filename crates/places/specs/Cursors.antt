-- What a cursor stands before, and what its methods promise.
use Rattle.std.specs.Prelude.{ℕ, ◌+◌, ◌-◌, ◌≡◌, Bool, List, length}
use Rattle.kinds.specs.Bounds.{Bound}
use Rattle.kinds.specs.declared.kind.Kind.{Kind}
use Rattle.bounds.specs.Ranges.{Range, holds}
use Rattle.ranges.specs.Made.{kind_of}
use Rattle.machine.specs.State.{Bytes}
use Rattle.machine.specs.Sets.{equal}
use Rattle.layout.specs.Offsets.{count_size, any_length}
use Rattle.codec.specs.Codec.{Codec}
use Rattle.codec.specs.Formats.{number}
use Rattle.codec.specs.Stands.{Stands}
use Rattle.layout.specs.Keys.{key_form, bound_form, range_form}
use Rattle.layout.specs.Rows.{Fills, Row}
use Rattle.places.specs.declared.cursor.Cursor.{Cursor}

abbrev pub past : Cursor → ℕ → Cursor
past c end = record { at = end; left = c.left - 1 }

pub record CountAt (s : List ℕ) (at : ℕ) (c : Cursor) : Type 0 where
  pub begins : c.at ≡ at + count_size
  pub counts : Stands (number count_size) s at c.left (at + count_size)

-- the records of xs, and no more, are left
pub record Before {A : Type 0} (C : Codec A) (s : List ℕ) (c : Cursor) (xs : List A) : Type 0 where
  pub end : ℕ
  pub row : Row C s c.at xs end
  pub count : length xs ≡ c.left

-- what is promised of the record at a place, whatever it is
pub record KindAt (s : List ℕ) (at : ℕ) (r : Kind) : Type 0 where
  pub is : (b : Bound) (e : ℕ) → Fills (bound_form any_length) s at b e → r ≡ kind_of b

pub record IsKey (s : List ℕ) (c : Cursor) (k : Bytes) (r : Bool) : Type 0 where
  pub is : (m : Bytes) (e : ℕ) → Fills (key_form any_length) s c.at m e → r ≡ equal k m

pub record Holds (s : List ℕ) (c : Cursor) (k : Bytes) (r : Bool) : Type 0 where
  pub is : (g : Range) (e : ℕ) → Fills (range_form any_length) s c.at g e → r ≡ holds g k
