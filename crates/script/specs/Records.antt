-- What the reader of records answers, case by case.
use Rattle.std.specs.Prelude.{ℕ, ◌+◌, ◌≤◌, ◌<◌, ◌≡◌, false, List, length, drop, Option, Some, None, Result, Ok, Err}
use Rattle.std.proofs.Math.Seq.{slice}
use Rattle.fields.specs.Fields.{field_head}
use Rattle.fields.specs.declared.Field.{Field}
use Rattle.script.specs.declared.records.Tag.{Tag}
use Rattle.script.specs.declared.records.UnknownTag.{UnknownTag}
use Rattle.script.specs.declared.records.Stop.{Stop}
use Rattle.script.specs.Stream.{known, next, whole, more, stop, payload_limit}

-- "01 begin (id), 02 writes and 03 reads (id, list), 04 range (id, bounds), 05 check (id), .. 08 drop (id), 09 minimum"
abbrev pub tag_number : Tag → ℕ
tag_number Tag.Begin = 1
tag_number Tag.Writes = 2
tag_number Tag.Reads = 3
tag_number Tag.Range = 4
tag_number Tag.Check = 5
tag_number Tag.Commit = 6
tag_number Tag.Batch = 7
tag_number Tag.Drop = 8
tag_number Tag.Minimum = 9

-- the tag of this number, or none of the nine
abbrev pub TagIs : ℕ → Result Tag UnknownTag → Type 0
TagIs n (Ok tag) = n ≡ tag_number tag
TagIs n (Err e) = known n ≡ false

pub record WholeAt (bs : List ℕ) (at tag from to : ℕ) : Type 0 where
  pub begins : from ≡ at + field_head
  pub order : from ≤ to
  pub inside : to ≤ length bs
  pub reads : next (drop at bs) ≡ whole tag (slice from to bs) (drop to bs)

-- what has come of a record leaves room for one byte more in a buffer that holds the longest record
pub record MoreAt (bs : List ℕ) (at : ℕ) : Type 0 where
  pub few : length bs < at + field_head + payload_limit
  pub reads : next (drop at bs) ≡ more

pub record StopAt (bs : List ℕ) (at : ℕ) : Type 0 where
  pub reads : next (drop at bs) ≡ stop

abbrev pub NextRecordIs : List ℕ → ℕ → Result (Option Field) Stop → Type 0
NextRecordIs bs at (Ok (Some r)) = WholeAt bs at r.tag r.payload.from r.payload.to
NextRecordIs bs at (Ok None) = MoreAt bs at
NextRecordIs bs at (Err e) = StopAt bs at
