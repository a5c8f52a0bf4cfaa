-- Document 01, "The simple machine" and "Room and its ceilings": states, marks and key bytes, and which states are machine
-- states.
use Rattle.std.specs.Prelude.{ℕ, ◌+◌, ◌≤◌, max, ◌≡◌, Bool, true, ◌&&◌, List, [], ◌∷◌, leb, length}
use mathlib.Core.Ordering.{lt}
use Rattle.keys.specs.Limit.{key_limit}
use Rattle.keys.specs.Order.{order}
use Rattle.bounds.specs.Ranges.{Range, not_empty}
use Rattle.ranges.specs.Made.{key_of}
use Rattle.machine.specs.Lists.{sum, All}
use Rattle.machine.specs.declared.Which.{Which}
use Rattle.machine.specs.declared.Which.TheVariants.{Writes, Reads}

abbrev pub Bytes : Type 0
Bytes = List ℕ

-- an id's length, "16-byte"
abbrev pub id_size : ℕ
id_size = 16

-- "active transactions by 16-byte id, each with a start, a write set, a read set and a list of ranges"
pub record Txn : Type 0 where
  pub id : Bytes
  pub start : ℕ
  pub writes : List Bytes
  pub reads : List Bytes
  pub ranges : List Range

-- "a list of entries, each a committed sequence and a write set"
pub record Entry : Type 0 where
  pub seq : ℕ
  pub keys : List Bytes

-- "State: the last committed number; active transactions ..; a list of entries"; the active ones ascend by id and a set's
-- keys ascend, so that one state is one value
pub record State : Type 0 where
  pub last : ℕ
  pub active : List Txn
  pub entries : List Entry

-- a transaction and a state are made by what changes, so that a part more moves these alone

-- "all sets empty"
abbrev pub new_txn : Bytes → ℕ → Txn
new_txn i n = record { id = i; start = n; writes = []; reads = []; ranges = [] }

-- the one for writes, the other for reads
abbrev pub choose : {A : Type 0} → Which → A → A → A
choose Writes a b = a
choose Reads a b = b

abbrev pub set_of : Which → Txn → List Bytes
set_of w t = choose w t.writes t.reads

abbrev pub with_set : Which → List Bytes → Txn → Txn
with_set w ks t =
    record { id = t.id; start = t.start; writes = choose w ks t.writes; reads = choose w t.reads ks; ranges = t.ranges }

abbrev pub with_ranges : List Range → Txn → Txn
with_ranges rs t = record { id = t.id; start = t.start; writes = t.writes; reads = t.reads; ranges = rs }

abbrev pub fresh_state : ℕ → State
fresh_state n = record { last = n; active = []; entries = [] }

abbrev pub with_last : ℕ → State → State
with_last n s = record { last = n; active = s.active; entries = s.entries }

abbrev pub with_active : List Txn → State → State
with_active ts s = record { last = s.last; active = ts; entries = s.entries }

abbrev pub with_entries : List Entry → State → State
with_entries es s = record { last = s.last; active = s.active; entries = es }

-- "the number advances": it becomes the larger of old and new
abbrev pub advanced : ℕ → State → State
advanced n s = with_last (max s.last n) s

-- "32 active, 128 entries, 1,024 marks, 32,768 key bytes", and the key limit
pub record Ceilings : Type 0 where
  pub active : ℕ
  pub entries : ℕ
  pub marks : ℕ
  pub bytes : ℕ
  pub key : ℕ

abbrev pub base : Ceilings
base = record { active = 32; entries = 128; marks = 1024; bytes = 32768; key = key_limit }

-- "A mark is one key in one set (active or entry) or one range."
abbrev pub txn_marks : Txn → ℕ
txn_marks t = length t.writes + length t.reads + length t.ranges

abbrev pub entry_marks : Entry → ℕ
entry_marks e = length e.keys

abbrev pub marks : State → ℕ
marks s = sum txn_marks s.active + sum entry_marks s.entries

-- "Key bytes are the lengths of all keys in marks; a range counts both bound keys, unbounded 0."
abbrev pub set_bytes : List Bytes → ℕ
set_bytes ks = sum length ks

abbrev pub range_bytes : Range → ℕ
range_bytes r = length (key_of r.start) + length (key_of r.end)

abbrev pub txn_bytes : Txn → ℕ
txn_bytes t = set_bytes t.writes + set_bytes t.reads + sum range_bytes t.ranges

abbrev pub entry_bytes : Entry → ℕ
entry_bytes e = set_bytes e.keys

abbrev pub key_bytes : State → ℕ
key_bytes s = sum txn_bytes s.active + sum entry_bytes s.entries

-- "all ceilings .. kept", as a test and as facts
abbrev pub fits : Ceilings → State → Bool
fits L s =
    leb (length s.active) L.active
    && leb (length s.entries) L.entries
    && leb (marks s) L.marks
    && leb (key_bytes s) L.bytes

pub record Fits (L : Ceilings) (s : State) : Type 0 where
  pub active : length s.active ≤ L.active
  pub entries : length s.entries ≤ L.entries
  pub marks : marks s ≤ L.marks
  pub bytes : key_bytes s ≤ L.bytes

-- strictly ascending, so that nothing stands twice
abbrev pub Above : Bytes → List Bytes → Type 0
Above p [] = Unit {0}
Above p (k ∷ ks) = (order p k ≡ lt) × Above k ks

abbrev pub Ascends : List Bytes → Type 0
Ascends [] = Unit {0}
Ascends (k ∷ ks) = Above k ks

abbrev pub ids : List Txn → List Bytes
ids [] = []
ids (t ∷ ts) = t.id ∷ ids ts

-- "the key limit kept", "no key twice in a set"
pub record SetOk (L : Ceilings) (ks : List Bytes) : Type 0 where
  pub short : All (λ k. length k ≤ L.key) ks
  pub once : Ascends ks

-- "the key limit kept", "no empty range"
pub record RangeOk (L : Ceilings) (r : Range) : Type 0 where
  pub short_start : length (key_of r.start) ≤ L.key
  pub short_end : length (key_of r.end) ≤ L.key
  pub not_empty_lem : not_empty r ≡ true

pub record TxnOk (L : Ceilings) (last : ℕ) (t : Txn) : Type 0 where
  pub id_length : length t.id ≡ id_size
  pub started : t.start ≤ last
  pub writes : SetOk L t.writes
  pub reads : SetOk L t.reads
  pub ranges : All (RangeOk L) t.ranges

pub record EntryOk (L : Ceilings) (last : ℕ) (e : Entry) : Type 0 where
  pub committed : e.seq ≤ last
  pub keys : SetOk L e.keys

-- "machine state" means: all ceilings and the key limit kept, ids distinct, no key twice in a set, no empty range, starts
-- and sequences at most the last number, no entries when nobody is active
pub record MachineState (L : Ceilings) (s : State) : Type 0 where
  pub ceilings : Fits L s
  pub distinct : Ascends (ids s.active)
  pub txns : All (TxnOk L s.last) s.active
  pub entries : All (EntryOk L s.last) s.entries
  pub idle : s.active ≡ [] → s.entries ≡ []
