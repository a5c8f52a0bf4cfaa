-- The Rust's manager as functions on values, with none of the machine's own steps. What it shares with the machine:
-- * values: Txn, an active TransactionState beside its id (its committed_seq is None); Range; the calls with their arguments;
-- * a HashSet's one ascending list, where `extend` is insert_all; a HashMap's, where `insert` is put, `get` is find and `remove` is
--   without; the equality of keys (laws in SetLaws.antt and ActiveLaws.antt);
-- * tests and parts of a list, `any`, `keep` and `is_nil`; whether a range holds a key; how lists and bounds are read from bytes.
-- `serve` is named where the two are compared, and in none of the Rust's functions.
use Rattle.std.specs.Prelude.{ℕ, ◌<◌, min, max, ◌≡◌, Bool, true, false, cond, not, ◌&&◌, ◌||◌, List, [], ◌∷◌, ◌++◌, leb, ltb, length}
use Rattle.std.proofs.Math.Option.{Option, none, some}
use Rattle.bounds.specs.Ranges.{Range, holds}
use Rattle.fields.specs.Fields.{key_list, bounds_of}
use Rattle.machine.specs.declared.Which.TheVariants.{Writes, Reads}
use Rattle.machine.specs.Lists.{is_nil, any, keep}
use Rattle.machine.specs.State.{Bytes, Txn, Entry, State, Ceilings}
use Rattle.machine.specs.Sets.{equal, insert_all, put, find, without}
use Rattle.machine.specs.Calls.{Op, begin, track_keys, track_range, check, commit, batch, drop_txn, minimum, on, Room}
use Rattle.machine.specs.Serve.{serve}

-- TransactionState of a committed one
pub record Committed : Type 0 where
  pub started_seq : ℕ
  pub committed_seq : Option ℕ
  pub write_keys : List Bytes
  pub read_keys : List Bytes
  pub read_ranges : List Range

-- TransactionManagerInner; `oracle` is its last committed number
pub record Manager : Type 0 where
  pub active_txns : List Txn
  pub recent_committed_txns : List Committed
  pub oracle : ℕ

-- `expect`: none is a panic; it is never met (Same, below)
abbrev pub expect : Option ℕ → ℕ
expect none = 0
expect (some n) = n

unfoldable pub is_disjoint : List Bytes → List Bytes → Bool
is_disjoint a b = not (any (λ k. any (equal k) a) b)

unfoldable pub has_write_write_conflict : List Committed → List Bytes → ℕ → Bool
has_write_write_conflict cs write_keys started_seq =
    cond (is_nil write_keys) false
    (any (λ c. ltb started_seq (expect c.committed_seq) && not (is_disjoint write_keys c.write_keys)) cs)

unfoldable pub has_read_write_conflict : List Committed → List Bytes → List Range → ℕ → Bool
has_read_write_conflict cs read_keys read_ranges started_seq =
    cond (is_nil read_keys && is_nil read_ranges) false
    (any
    (λ c.
    ltb started_seq (expect c.committed_seq)
    && (not (is_disjoint read_keys c.write_keys) || any (λ r. any (holds r) c.write_keys) read_ranges))
    cs)

abbrev pub check_txn : List Committed → Option Txn → Bool
check_txn cs none = false
check_txn cs (some t) =
    has_write_write_conflict cs t.writes t.start || has_read_write_conflict cs t.reads t.ranges t.start

unfoldable pub check_has_conflict : Bytes → Manager → Bool
check_has_conflict i m = check_txn m.recent_committed_txns (find i m.active_txns)

abbrev pub manager : List Txn → List Committed → ℕ → Manager
manager ts cs n = record { active_txns = ts; recent_committed_txns = cs; oracle = n }

-- new_transaction's TransactionState: `started_seq: seq`, and all sets empty
abbrev pub new_transaction : Bytes → ℕ → Txn
new_transaction i seq = record { id = i; start = seq; writes = []; reads = []; ranges = [] }

-- `self.write_keys.extend(keys)`
abbrev pub track_write_keys : List Bytes → Txn → Txn
track_write_keys keys t =
    record { id = t.id; start = t.start; writes = insert_all keys t.writes; reads = t.reads; ranges = t.ranges }

-- `self.read_keys.extend(keys)`
abbrev pub track_read_keys : List Bytes → Txn → Txn
track_read_keys keys t =
    record { id = t.id; start = t.start; writes = t.writes; reads = insert_all keys t.reads; ranges = t.ranges }

-- `self.read_ranges.push(range)`
abbrev pub track_read_range : Range → Txn → Txn
track_read_range range t =
    record { id = t.id; start = t.start; writes = t.writes; reads = t.reads; ranges = t.ranges ++ (range ∷ []) }

-- the lesser of a number and the least of the others, if there are others
abbrev pub min_with : ℕ → Option ℕ → ℕ
min_with n none = n
min_with n (some m) = min n m

-- min_active_seq and min_conflict_check_seq, one expression in the Rust: the `min` of every started_seq, None of nobody's
unfoldable pub min_started_seq : List Txn → Option ℕ
min_started_seq [] = none
min_started_seq (t ∷ ts) = some (min_with t.start (min_started_seq ts))

-- `if let Some(txn_state) = active_txns.get_mut(txn_id)`
abbrev pub get_mut : (Txn → Txn) → Manager → Option Txn → Manager
get_mut f m none = m
get_mut f m (some t) = manager (put (f t) m.active_txns) m.recent_committed_txns m.oracle

-- mark_as_committed: the reads are gone
abbrev pub committed : ℕ → ℕ → List Bytes → Committed
committed started n ks =
    record { started_seq = started; committed_seq = some n; write_keys = ks; read_keys = []; read_ranges = [] }

-- track_recent_committed_state: push_back, and clear if min_conflict_check_seq is none
abbrev pub clear_idle : Option ℕ → List Committed → List Committed
clear_idle none cs = []
clear_idle (some n) cs = cs

-- `retain`: committed_seq >= min_seq; one without is warned of and kept, and is never met (Same, below)
abbrev pub retains : ℕ → Option ℕ → Bool
retains minSeq none = true
retains minSeq (some n) = leb minSeq n

-- recycle_recent_committed_txns: retain, or clear
abbrev pub recycle : Option ℕ → List Committed → List Committed
recycle none cs = []
recycle (some minSeq) cs = keep (λ c. retains minSeq c.committed_seq) cs

-- the state enters, and the oracle advances: `fetch_max`
abbrev pub commit_state : List Txn → Committed → ℕ → Manager → Manager
commit_state left c n m =
    manager left (clear_idle (min_started_seq left) (m.recent_committed_txns ++ (c ∷ []))) (max m.oracle n)

abbrev pub commit_txn : Bytes → ℕ → Manager → Option Txn → Manager
commit_txn i n m none = manager m.active_txns m.recent_committed_txns (max m.oracle n)
commit_txn i n m (some t) = commit_state (without i m.active_txns) (committed t.start n t.writes) n m

abbrev pub listed : Option (List Bytes) → List Bytes
listed none = []
listed (some ks) = ks

abbrev pub on_range : Option Range → (Range → Manager) → Manager → Manager
on_range none f m = m
on_range (some r) f m = f r

unfoldable pub rust : Op → Manager → Manager
rust (begin i) m = manager (put (new_transaction i m.oracle) m.active_txns) m.recent_committed_txns m.oracle
rust (track_keys Writes i bs) m = get_mut (track_write_keys (listed (key_list bs))) m (find i m.active_txns)
rust (track_keys Reads i bs) m = get_mut (track_read_keys (listed (key_list bs))) m (find i m.active_txns)
rust (track_range i bs) m = on_range (bounds_of bs) (λ r. get_mut (track_read_range r) m (find i m.active_txns)) m
rust (check i) m = m
rust (commit i n) m = commit_txn i n m (find i m.active_txns)
rust (batch n bs) m = commit_state m.active_txns (committed n n (insert_all (listed (key_list bs)) [])) n m
rust (drop_txn i) m =
    let left = without i m.active_txns in
    manager left (recycle (min_started_seq left) m.recent_committed_txns) m.oracle
rust minimum m = m

unfoldable pub rust_run : Manager → List Op → Manager
rust_run m [] = m
rust_run m (c ∷ cs) = rust_run (rust c m) cs

-- ---------------------------------------------------------------- agreement

-- "retained entries equal the Rust's"
abbrev pub Same : List Committed → List Entry → Type 0
Same [] [] = Unit {0}
Same [] (e ∷ es) = ⊥
Same (c ∷ cs) [] = ⊥
Same (c ∷ cs) (e ∷ es) = ((c.committed_seq ≡ some e.seq) × (c.write_keys ≡ e.keys)) × Same cs es

-- "verdicts, minimum active sequence, last committed sequence and retained entries equal the Rust's": the active
-- transactions too, from which the first two are read
pub record Agree (m : Manager) (s : State) : Type 0 where
  pub active : m.active_txns ≡ s.active
  pub last : m.oracle ≡ s.last
  pub entries : Same m.recent_committed_txns s.entries

-- "check: 1 conflict, 0 none"
abbrev pub as_number : Bool → ℕ
as_number false = 0
as_number true = 1

-- a call's value by the Rust's own functions
abbrev pub Value : Op → Manager → ℕ → Type 0
Value (begin i) m v = v ≡ m.oracle
Value (track_keys w i bs) m v = Unit {0}
Value (track_range i bs) m v = Unit {0}
Value (check i) m v = v ≡ as_number (check_has_conflict i m)
Value (commit i n) m v = v ≡ (rust (commit i n) m).oracle
Value (batch n bs) m v = v ≡ (rust (batch n bs) m).oracle
Value (drop_txn i) m v = v ≡ length (rust (drop_txn i) m).recent_committed_txns
Value minimum m v = min_started_seq m.active_txns ≡ some v

-- "While no call has answered 2 to 7"
abbrev pub Unrefused : Ceilings → Room → List Op → Type 0
Unrefused L room [] = Unit {0}
Unrefused L room (c ∷ cs) = ((serve L room (on c)).status < 2) × Unrefused L (serve L room (on c)).room cs
