-- The calls with their arguments as they are passed, and what comes back.
use Rattle.std.specs.Prelude.{ℕ, Bool, true, false}
use Rattle.std.proofs.Math.Option.{Option, none, some}
use Rattle.machine.specs.State.{Bytes, State}
use Rattle.machine.specs.declared.Which.{Which}

-- ids, key lists and bounds are any bytes, "numbers passed to the library are numbers"
pub data Op : Type 0 where
  begin : Bytes → Op
  track_keys : Which → Bytes → Bytes → Op
  track_range : Bytes → Bytes → Op
  check : Bytes → Op
  commit : Bytes → ℕ → Op
  batch : ℕ → Bytes → Op
  drop_txn : Bytes → Op
  minimum : Op

pub data Call : Type 0 where
  fresh : ℕ → Call
  on : Op → Call

-- what a call takes beside numbers: the id of a transaction that begins, or of one that is active; a key list; bounds; and whether
-- it asks of anyone active at all
pub record Takes : Type 0 where
  pub new : Option Bytes
  pub id : Option Bytes
  pub list : Option Bytes
  pub bounds : Option Bytes
  pub anyone : Bool

abbrev pub taking : Option Bytes → Option Bytes → Option Bytes → Option Bytes → Bool → Takes
taking new id list bounds anyone = record { new = new; id = id; list = list; bounds = bounds; anyone = anyone }

abbrev pub takes : Op → Takes
takes (begin i) = taking (some i) none none none false
takes (track_keys w i bs) = taking none (some i) (some bs) none false
takes (track_range i bs) = taking none (some i) none (some bs) false
takes (check i) = taking none (some i) none none false
takes (commit i n) = taking none (some i) none none false
takes (batch n bs) = taking none none (some bs) none false
takes (drop_txn i) = taking none (some i) none none false
takes minimum = taking none none none none true

-- whose transaction a call ends: commit and drop
abbrev pub end_of : Op → Option Bytes
end_of (begin i) = none
end_of (track_keys w i bs) = none
end_of (track_range i bs) = none
end_of (check i) = none
end_of (commit i n) = some i
end_of (batch n bs) = none
end_of (drop_txn i) = some i
end_of minimum = none

-- a test of what is there; nothing passes no test
abbrev pub of_some : {A : Type 0} → Option A → (A → Bool) → Bool
of_some none p = false
of_some (some a) p = p a

-- the calls of "Status 1 leaves the room unchanged except as commit and drop say."
abbrev pub is_commit_or_drop : Call → Bool
is_commit_or_drop (fresh n) = false
is_commit_or_drop (on c) = of_some (end_of c) (λ i. true)

-- what the lent bytes are: "too short", "not the record of a machine state", or the record of one
pub data Room : Type 0 where
  short broken : Room
  holding : State → Room

-- statuses 2 to 6
pub data Refusal : Type 0 where
  malformed again longKey emptyRange full : Refusal

abbrev pub refusal_status : Refusal → ℕ
refusal_status malformed = 2
refusal_status again = 3
refusal_status longKey = 4
refusal_status emptyRange = 5
refusal_status full = 6

-- what a machine state answers: status 0, status 1, or a refusal
pub data Answer : Type 0 where
  done absent : ℕ → State → Answer
  refused : Refusal → Answer

pub record Reply : Type 0 where
  pub status : ℕ
  pub value : ℕ
  pub room : Room

abbrev pub replied : ℕ → ℕ → Room → Reply
replied n v r = record { status = n; value = v; room = r }

abbrev pub reply : State → Answer → Reply
reply s (done v u) = replied 0 v (holding u)
reply s (absent v u) = replied 1 v (holding u)
reply s (refused r) = replied (refusal_status r) 0 (holding s)

-- a step gives something to go on with, or ends the call
pub data Step (A : Type 0) : Type 0 where
  go : A → Step A
  stop : Answer → Step A

infixl 1 ◌>>=◌ ◌>>◌
abbrev pub ◌>>=◌ : {A : Type 0} → Step A → (A → Answer) → Answer
◌>>=◌ (go a) f = f a
◌>>=◌ (stop x) f = x

abbrev pub ◌>>◌ : Step (Unit {0}) → Answer → Answer
◌>>◌ (go a) x = x
◌>>◌ (stop y) x = y

abbrev pub need : Bool → Refusal → Step (Unit {0})
need true r = go tt
need false r = stop (refused r)

abbrev pub given : {A : Type 0} → Option A → Answer → Step A
given none x = stop x
given (some a) x = go a
