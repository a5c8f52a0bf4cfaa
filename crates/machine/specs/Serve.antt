-- What each call answers. The statuses' order is the order of the lines: "First in this order wins: 7, 2, 4, 5, then 3 or
-- 1, then 6."
use Rattle.std.specs.Prelude.{ℕ, ◌-◌, max, Bool, true, false, ◌&&◌, List, [], ◌∷◌, ◌++◌, leb, eqb, length}
use Rattle.std.proofs.Math.Option.{Option, none, some}
use Rattle.bounds.specs.Ranges.{Range, not_empty}
use Rattle.ranges.specs.Made.{key_of}
use Rattle.fields.specs.Fields.{key_list, bounds_of}
use Rattle.fields.specs.Forms.{short_keys}
use Rattle.machine.specs.declared.Which.{Which}
use Rattle.machine.specs.State.{Bytes, Txn, Entry, State, Ceilings, set_of, with_set, with_ranges, fresh_state, with_active, with_entries, advanced, txn_marks, fits, id_size}
pub use Rattle.machine.specs.State.{new_txn}
use Rattle.machine.specs.Sets.{insert_all, put, find, without, least, pruned, emptied_if_idle, conflict}
use Rattle.machine.specs.Calls.{Op, begin, track_keys, track_range, check, commit, batch, drop_txn, minimum, Call, fresh, on, Room, short, broken, holding, malformed, again, longKey, emptyRange, full, Answer, done, absent, refused, Reply, replied, reply, ◌>>=◌, ◌>>◌, need, given}

abbrev pub entry : ℕ → List Bytes → Entry
entry n ks = record { seq = n; keys = ks }

abbrev pub is_id : Bytes → Bool
is_id i = eqb (length i) id_size

abbrev pub is_new : Option Txn → Bool
is_new none = true
is_new (some t) = false

abbrev pub short_range : ℕ → Range → Bool
short_range n r = leb (length (key_of r.start)) n && leb (length (key_of r.end)) n

abbrev pub verdict : Bool → ℕ
verdict true = 1
verdict false = 0

-- "Track writes or reads: add a list's keys to the set. Track range: append, repeats kept."
abbrev pub add_keys : Which → List Bytes → Txn → Txn
add_keys w ks t = with_set w (insert_all ks (set_of w t)) t

abbrev pub add_range : Range → Txn → Txn
add_range r t = with_ranges (t.ranges ++ (r ∷ [])) t

-- the state with this transaction active, in the place of the one that has its id, if any
abbrev pub with_txn : Txn → State → State
with_txn t s = with_active (put t s.active) s

-- "Begin: start is the last committed number, all sets empty."
abbrev pub begun : Bytes → State → State
begun i s = with_txn (new_txn i s.last) s

-- "its write set becomes the last entry; if nobody is active now, the list is emptied"
abbrev pub with_entry : Entry → State → State
with_entry e s = emptied_if_idle (with_entries (s.entries ++ (e ∷ [])) s)

-- a commit or a batch enters, `left` being active after it: "the number advances", to the larger of old and new
abbrev pub entered : List Txn → ℕ → List Bytes → State → State
entered left n ks s = with_entry (entry n ks) (with_active left (advanced n s))

-- "Drop: remove the id if active, then prune"
abbrev pub dropped : Bytes → State → State
dropped i s = pruned (with_active (without i s.active) s)

-- row 6 for every call: the state afterwards must keep the ceilings (Words.antt has document 01's words for each)
abbrev pub settle : Ceilings → ℕ → State → Answer
settle L v s = do
  need (fits L s) full
  done v s

-- "track: marks newly stored"
abbrev pub track : Ceilings → State → Bytes → (Txn → Txn) → Answer
track L s i f = do
  t ← given (find i s.active) (absent 0 s)
  settle L (txn_marks (f t) - txn_marks t) (with_txn (f t) s)

-- "commit, batch: last number after"
abbrev pub enter : Ceilings → State → List Txn → ℕ → List Bytes → Answer
enter L s left n ks = settle L (max s.last n) (entered left n ks s)

unfoldable pub answer : Ceilings → State → Op → Answer
-- "3: begin of an active id"
answer L s (begin i) = do
  need (is_id i) malformed
  need (is_new (find i s.active)) again
  settle L s.last (begun i s)
answer L s (track_keys w i bs) = do
  need (is_id i) malformed
  ks ← given (key_list bs) (refused malformed)
  need (short_keys L.key ks) longKey
  track L s i (add_keys w ks)
answer L s (track_range i bs) = do
  need (is_id i) malformed
  r ← given (bounds_of bs) (refused malformed)
  need (short_range L.key r) longKey
  need (not_empty r) emptyRange
  track L s i (add_range r)
-- "check: 1 conflict, 0 none"
answer L s (check i) = do
  need (is_id i) malformed
  t ← given (find i s.active) (absent 0 s)
  done (verdict (conflict t s.entries)) s
-- "the transaction leaves; its write set becomes the last entry ..; the number advances. For an id not active only the
-- number advances."
answer L s (commit i n) = do
  need (is_id i) malformed
  t ← given (find i s.active) (absent (max s.last n) (advanced n s))
  enter L s (without i s.active) n t.writes
-- "Write batch: the same with its own keys, an empty list included, and no id."
answer L s (batch n bs) = do
  ks ← given (key_list bs) (refused malformed)
  need (short_keys L.key ks) longKey
  enter L s s.active n (insert_all ks [])
-- "Drop: remove the id if active, then prune, even for an unknown id."
answer L s (drop_txn i) = do
  need (is_id i) malformed
  let after = dropped i s
  t ← given (find i s.active) (absent (length after.entries) after)
  done (length after.entries) after
-- "Minimum: smallest active start."; "1: .. minimum with nobody active"
answer L s minimum = do
  m ← given (least s.active) (absent 0 s)
  done m s

-- "7: room too short or, save for fresh, not the record of a machine state"; "Making a fresh room ignores its old content."
unfoldable pub serve : Ceilings → Room → Call → Reply
serve L short c = replied 7 0 short
serve L broken (on c) = replied 7 0 broken
serve L broken (fresh n) = replied 0 n (holding (fresh_state n))
serve L (holding s) (fresh n) = replied 0 n (holding (fresh_state n))
serve L (holding s) (on c) = reply s (answer L s c)
