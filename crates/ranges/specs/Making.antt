-- Making ranges: document 01's statuses for them.
use Rattle.std.specs.Prelude.{ℕ, cond, ◌||◌, List, ltb, length, Result, Ok, Err}
use Rattle.keys.specs.Limit.{key_limit}
use Rattle.bounds.specs.Ranges.{Range, not_empty}
use Rattle.ranges.specs.declared.made.RangeError.{RangeError}
use Rattle.ranges.specs.declared.made.RangeError.TheVariants.{LongKey, EmptyRange}
use Rattle.ranges.specs.declared.made.MadeBound.{MadeBound}
use Rattle.ranges.specs.declared.bytes_range.BytesRange.{BytesRange}
use Rattle.ranges.specs.declared.bytes_range.MadeRange.{MadeRange}
use Rattle.ranges.specs.Made.{too_long, kind_of, made_of}
use Rattle.ranges.specs.Prefixes.{increment, end_at}

-- a range as its pair of kinds, with the keys beside it
abbrev pub kinds_of : Range → BytesRange
kinds_of r = record { inner = record { start = kind_of r.start; end = kind_of r.end } }

-- "an over-long key, prefix or joined key is status 4, before status 5 for an empty range where the source asserts"
unfoldable pub new_of : Range → Result BytesRange RangeError
new_of r = cond (too_long r.start || too_long r.end) (Err LongKey) (cond (not_empty r) (Ok (kinds_of r)) (Err EmptyRange))

-- "In making a range or increment, an over-long key, prefix or joined key is status 4"
abbrev pub made_increment : List ℕ → Result MadeBound RangeError
made_increment p = cond (ltb key_limit (length p)) (Err LongKey) (Ok (made_of (end_at (increment p))))

abbrev pub answered : Result BytesRange RangeError → Range → Result MadeRange RangeError
answered (Ok b) r = Ok (record { start = made_of r.start; end = made_of r.end })
answered (Err e) r = Err e

abbrev pub made_range : Range → Result MadeRange RangeError
made_range r = answered (new_of r) r
