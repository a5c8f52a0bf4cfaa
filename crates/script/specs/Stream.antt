-- Script records, at the front of the bytes that have come.
use Rattle.std.specs.Prelude.{ℕ, Bool, true, false, cond, ◌&&◌, List, leb, length}
use Rattle.fields.specs.Fields.{Front, empty, begun, cut, first, front}

-- "01 begin .. 09 minimum"
abbrev pub known : ℕ → Bool
known tag = leb 1 tag && leb tag 9

abbrev pub payload_limit : ℕ
payload_limit = 32768

-- what stands at the front of the bytes that have come so far: a whole record and what follows it, the beginning of one, or a
-- head that ends the run
pub data Next : Type 0 where
  whole : ℕ → List ℕ → List ℕ → Next
  more stop : Next

abbrev pub is_whole : Next → Bool
is_whole (whole tag p rest) = true
is_whole more = false
is_whole stop = false

-- "An unknown tag, a payload above 32,768 .. ends the run"
abbrev pub allowed : ℕ → ℕ → Bool
allowed tag n = known tag && leb n payload_limit

-- a record is a field; its head ends the run as soon as its bytes say so
abbrev pub record_of : Front → Next
record_of empty = more
record_of (begun tag) = cond (known tag) more stop
record_of (cut tag n) = cond (allowed tag n) more stop
record_of (first f rest) = cond (allowed f.tag (length f.payload)) (whole f.tag f.payload rest) stop

abbrev pub next : List ℕ → Next
next bs = record_of (front bs)
