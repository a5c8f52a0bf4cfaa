-- Runs of calls with the full record beside them, and the verdict by the record, in demand 3's words.
use Rattle.std.specs.Prelude.{ℕ, ◌<◌, ◌≡◌, Bool, true, false, cond, ◌&&◌, ◌↔◌, eqb}
use mathlib.Core.List.{List, [], ◌∷◌, ◌++◌, Memᴰ}
use Rattle.std.proofs.Math.Option.{Option, none, some}
use Rattle.bounds.specs.Ranges.{Range, holds}
use Rattle.fields.specs.Fields.{key_list}
use Rattle.machine.specs.State.{Bytes, Txn, Entry, State, Ceilings, fresh_state}
use Rattle.machine.specs.Sets.{equal, insert_all, find}
use Rattle.machine.specs.Calls.{Op, begin, track_keys, track_range, check, commit, batch, drop_txn, minimum, Call, fresh, on, end_of, of_some, Room, short, broken, holding, Reply}
use Rattle.machine.specs.Serve.{entry, serve}

-- ---------------------------------------------------------------- the full record

-- "the full record is kept outside the room: the sequence and write set of each commit and batch answered 0 since the room
-- was made fresh"
pub record World : Type 0 where
  pub room : Room
  pub history : List Entry

abbrev pub writes_of : Option Txn → List Bytes
writes_of none = []
writes_of (some t) = t.writes

abbrev pub keys_in : Option (List Bytes) → List Bytes
keys_in none = []
keys_in (some ks) = insert_all ks []

-- what a call writes, if it is answered 0
unfoldable pub written : State → Op → List Entry
written s (begin i) = []
written s (track_keys w i bs) = []
written s (track_range i bs) = []
written s (check i) = []
written s (commit i n) = entry n (writes_of (find i s.active)) ∷ []
written s (batch n bs) = entry n (keys_in (key_list bs)) ∷ []
written s (drop_txn i) = []
written s minimum = []

abbrev pub recorded : Room → Call → List Entry → List Entry
recorded room (fresh n) h = []
recorded short (on c) h = h
recorded broken (on c) h = h
recorded (holding s) (on c) h = h ++ written s c

abbrev pub after_call : Ceilings → World → Call → World
after_call L w c =
    record {
      room = (serve L w.room c).room;
      history = cond (eqb (serve L w.room c).status 0) (recorded w.room c w.history) w.history;
    }

-- "any sequence of them, refused ones included"
unfoldable pub after_calls : Ceilings → World → List Call → World
after_calls L w [] = w
after_calls L w (c ∷ cs) = after_calls L (after_call L w c) cs

abbrev pub start : ℕ → World
start n = record { room = holding (fresh_state n); history = [] }

abbrev pub active_of : Room → List Txn
active_of short = []
active_of broken = []
active_of (holding s) = s.active

-- ---------------------------------------------------------------- the verdict by the record

-- "a key in its write set, its read set or one of its ranges"
pub data InTracked (t : Txn) (k : Bytes) : Type 0 where
  in_writes_lem : Memᴰ k t.writes → InTracked t k
  in_reads_lem : Memᴰ k t.reads → InTracked t k
  in_range : (r : Range) → Memᴰ r t.ranges → holds r k ≡ true → InTracked t k

-- "the full record .. has one whose sequence is greater than that transaction's start and that wrote" such a key
pub record Conflict (t : Txn) (history : List Entry) : Type 0 where
  pub by : Entry
  pub recorded : Memᴰ by history
  pub later : t.start < by.seq
  pub key : Bytes
  pub wrote : Memᴰ key by.keys
  pub tracked : InTracked t key

-- "A check of an active transaction says conflict exactly when" there is one
pub record SaysConflict (t : Txn) (history : List Entry) (r : Reply) : Type 0 where
  pub done : r.status ≡ 0
  pub conflict : (r.value ≡ 1) ↔ Conflict t history
  pub none : (r.value ≡ 0) ↔ (Conflict t history → ⊥)

-- ---------------------------------------------------------------- once said

-- "until that transaction commits or is dropped, or the room is made fresh again"
abbrev pub ends_op : Bytes → Op → Bool
ends_op i c = of_some (end_of c) (equal i)

abbrev pub ends : Bytes → Call → Bool
ends i (fresh n) = true
ends i (on c) = ends_op i c

-- none of the calls, made one after another, is answered 0 and ends the transaction
abbrev pub Lives : Ceilings → Bytes → World → List Call → Type 0
Lives L i w [] = Unit {0}
Lives L i w (c ∷ cs) = ((eqb (serve L w.room c).status 0 && ends i c) ≡ false) × Lives L i (after_call L w c) cs
