-- Document 01's table of statuses in plain words, for a call on a machine state: when each row's condition holds, which row is the
-- first, and what is answered. Table.antt has the same conditions as tests: `malformed_means` and its like say that they agree.
use Rattle.std.specs.Prelude.{ℕ, ◌+◌, ◌-◌, ◌<◌, max, ◌≡◌, true, false, ◌⊎◌, length}
use mathlib.Core.List.{List, [], Memᴰ}
use Rattle.std.proofs.Math.Option.{Option, none, some}
use Rattle.bounds.specs.Ranges.{Range, not_empty}
use Rattle.ranges.specs.Made.{key_of}
use Rattle.fields.specs.Fields.{key_list, bounds_of}
use Rattle.machine.specs.declared.Which.{Which}
use Rattle.machine.specs.State.{Bytes, Txn, State, Ceilings, new_txn, set_of, advanced, marks, key_bytes, set_bytes, range_bytes, id_size}
use Rattle.machine.specs.Sets.{insert_all, find, least, pruned, conflict}
use Rattle.machine.specs.Calls.{Op, begin, track_keys, track_range, check, commit, batch, drop_txn, minimum, takes}
use Rattle.machine.specs.Serve.{verdict}

-- the call takes one, and P is so of it
abbrev pub Has : {A : Type 0} → Option A → (A → Type 0) → Type 0
Has none P = ⊥
Has (some a) P = P a

-- ---------------------------------------------------------------- row 2

abbrev pub BadId : Bytes → Type 0
BadId i = length i ≡ id_size → ⊥

abbrev pub BadList : Bytes → Type 0
BadList bs = key_list bs ≡ none

abbrev pub BadBounds : Bytes → Type 0
BadBounds bs = bounds_of bs ≡ none

-- "id not 16 bytes, sequence not 8, key list or bounds badly formed" (a sequence is a number here)
abbrev pub Malformed : Op → Type 0
Malformed c =
    (Has (takes c).new BadId ⊎ Has (takes c).id BadId) ⊎ (Has (takes c).list BadList ⊎ Has (takes c).bounds BadBounds)

-- ---------------------------------------------------------------- rows 4 and 5

pub record HasLongKey (L : Ceilings) (bs : Bytes) : Type 0 where
  pub keys : List Bytes
  pub listed : key_list bs ≡ some keys
  pub key : Bytes
  pub among : Memᴰ key keys
  pub long : L.key < length key

pub record HasLongBound (L : Ceilings) (bs : Bytes) : Type 0 where
  pub range : Range
  pub read : bounds_of bs ≡ some range
  pub long : (L.key < length (key_of range.start)) ⊎ (L.key < length (key_of range.end))

-- "a key over 512 bytes"
abbrev pub LongKey : Ceilings → Op → Type 0
LongKey L c = Has (takes c).list (HasLongKey L) ⊎ Has (takes c).bounds (HasLongBound L)

pub record IsEmpty (bs : Bytes) : Type 0 where
  pub range : Range
  pub read : bounds_of bs ≡ some range
  pub empty : not_empty range ≡ false

-- "range empty by the rule"
abbrev pub EmptyRange : Op → Type 0
EmptyRange c = Has (takes c).bounds IsEmpty

-- ---------------------------------------------------------------- rows 3 and 1

pub record IsActive (s : State) (i : Bytes) : Type 0 where
  pub txn : Txn
  pub found : find i s.active ≡ some txn

-- "begin of an active id"
abbrev pub Again : State → Op → Type 0
Again s c = Has (takes c).new (IsActive s)

abbrev pub NotActive : State → Bytes → Type 0
NotActive s i = find i s.active ≡ none

-- "id isn't active, or minimum with nobody active"
abbrev pub Absent : State → Op → Type 0
Absent s c = Has (takes c).id (NotActive s) ⊎ (((takes c).anyone ≡ true) × (s.active ≡ []))

-- ---------------------------------------------------------------- row 6

-- "would pass a total", with so many marks and key bytes more
abbrev pub PassesTotal : Ceilings → State → ℕ → ℕ → Type 0
PassesTotal L s m b = (L.marks < marks s + m) ⊎ (L.bytes < key_bytes s + b)

-- "A key already in that set costs nothing; twice in one list counts once."
abbrev pub new_marks : List Bytes → List Bytes → ℕ
new_marks ks set = length (insert_all ks set) - length set

abbrev pub new_bytes : List Bytes → List Bytes → ℕ
new_bytes ks set = set_bytes (insert_all ks set) - set_bytes set

-- "track that would pass a total": the keys of the list that are not in that set
pub record KeysPass (L : Ceilings) (s : State) (i bs : Bytes) (w : Which) : Type 0 where
  pub keys : List Bytes
  pub listed : key_list bs ≡ some keys
  pub active : IsActive s i
  pub passes : PassesTotal L s (new_marks keys (set_of w active.txn)) (new_bytes keys (set_of w active.txn))

-- one mark; "a range counts both bound keys"
pub record RangePasses (L : Ceilings) (s : State) (i bs : Bytes) : Type 0 where
  pub range : Range
  pub read : bounds_of bs ≡ some range
  pub active : IsActive s i
  pub passes : PassesTotal L s 1 (range_bytes range)

-- "batch while someone is active that would pass 128 entries or a total"
pub record BatchPasses (L : Ceilings) (s : State) (bs : Bytes) : Type 0 where
  pub keys : List Bytes
  pub listed : key_list bs ≡ some keys
  pub someone : s.active ≡ [] → ⊥
  pub passes : (length s.entries ≡ L.entries) ⊎ PassesTotal L s (new_marks keys []) (new_bytes keys [])

-- "while someone else is active"
pub record Other (i : Bytes) (us : List Txn) : Type 0 where
  pub who : Txn
  pub active : Memᴰ who us
  pub another : who.id ≡ i → ⊥

-- "begin with 32 active; track that would pass a total; batch ..; commit with 128 entries while someone else is active"
abbrev pub Full : Ceilings → State → Op → Type 0
Full L s (begin i) = length s.active ≡ L.active
Full L s (track_keys w i bs) = KeysPass L s i bs w
Full L s (track_range i bs) = RangePasses L s i bs
Full L s (check i) = ⊥
Full L s (commit i n) = (length s.entries ≡ L.entries) × Other i s.active
Full L s (batch n bs) = BatchPasses L s bs
Full L s (drop_txn i) = ⊥
Full L s minimum = ⊥

-- ---------------------------------------------------------------- the first row

-- n is this row's number where its condition holds, and else the number of a row after it
abbrev pub First : ℕ → Type 0 → (ℕ → Type 0) → ℕ → Type 0
First number Row after n = (Row × (n ≡ number)) ⊎ ((Row → ⊥) × after n)

-- "First in this order wins: 7, 2, 4, 5, then 3 or 1, then 6." (7 is the room's)
abbrev pub Status : Ceilings → State → Op → ℕ → Type 0
Status L s c =
    First 2 (Malformed c)
    (First 4 (LongKey L c)
    (First 5 (EmptyRange c)
    (First 3 (Again s c)
    (First 1 (Absent s c)
    (First 6 (Full L s c)
    (λ n. n ≡ 0))))))

-- ---------------------------------------------------------------- the value of 0

-- the last number, which the new transaction has as its start
pub record Started (i : Bytes) (before after : State) (v : ℕ) : Type 0 where
  pub last : v ≡ before.last
  pub start : find i after.active ≡ some (new_txn i v)

pub record Checked (i : Bytes) (s : State) (v : ℕ) : Type 0 where
  pub txn : Txn
  pub active : find i s.active ≡ some txn
  pub value : v ≡ verdict (conflict txn s.entries)

pub record Advanced (n : ℕ) (before after : State) (v : ℕ) : Type 0 where
  pub last : v ≡ after.last
  pub larger : after.last ≡ max before.last n

-- "begin: start; track: marks newly stored; check: 1 conflict, 0 none; commit, batch: last number after; drop: entries
-- kept; minimum: that start"
abbrev pub DoneValue : Op → (before after : State) → ℕ → Type 0
DoneValue (begin i) s u v = Started i s u v
DoneValue (track_keys w i bs) s u v = marks u ≡ marks s + v
DoneValue (track_range i bs) s u v = marks u ≡ marks s + v
DoneValue (check i) s u v = Checked i s v
DoneValue (commit i n) s u v = Advanced n s u v
DoneValue (batch n bs) s u v = Advanced n s u v
DoneValue (drop_txn i) s u v = v ≡ length u.entries
DoneValue minimum s u v = least s.active ≡ some v

-- ---------------------------------------------------------------- the value of 1

-- "commit: last number after; drop: entries kept; else 0"
abbrev pub absent_value : Op → State → ℕ
absent_value (begin i) s = 0
absent_value (track_keys w i bs) s = 0
absent_value (track_range i bs) s = 0
absent_value (check i) s = 0
absent_value (commit i n) s = max s.last n
absent_value (batch n bs) s = 0
absent_value (drop_txn i) s = length (pruned s).entries
absent_value minimum s = 0

-- "Status 1 leaves the room unchanged except as commit and drop say."
abbrev pub absent_state : Op → State → State
absent_state (begin i) s = s
absent_state (track_keys w i bs) s = s
absent_state (track_range i bs) s = s
absent_state (check i) s = s
absent_state (commit i n) s = advanced n s
absent_state (batch n bs) s = s
absent_state (drop_txn i) s = pruned s
absent_state minimum s = s
