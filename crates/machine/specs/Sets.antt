-- What the calls do to sets, to the active transactions and to the entries.
use Rattle.std.specs.Prelude.{ℕ, min, Bool, true, false, cond, not, ◌&&◌, ◌||◌, List, [], ◌∷◌, leb, ltb}
use Rattle.std.proofs.Math.Option.{Option, none, some}
use mathlib.Core.Ordering.{Ordering, lt, eq, gt}
use Rattle.keys.specs.Order.{order, is_same}
use Rattle.bounds.specs.Ranges.{holds}
use Rattle.machine.specs.Lists.{any, keep}
use Rattle.machine.specs.State.{Bytes, Txn, Entry, State, with_active, with_entries}

abbrev pub equal : Bytes → Bytes → Bool
equal a b = is_same (order a b)

-- by where one stands against another: before, at or after it
abbrev pub stands {ℓ} : {A : Type ℓ} → Ordering → A → A → A → A
stands lt a b c = a
stands eq a b c = b
stands gt a b c = c

-- "A key already in that set costs nothing; twice in one list counts once."
unfoldable pub insert : Bytes → List Bytes → List Bytes
insert k [] = k ∷ []
insert k (x ∷ xs) = stands (order k x) (k ∷ x ∷ xs) (x ∷ xs) (x ∷ insert k xs)

-- "add a list's keys to the set"
unfoldable pub insert_all : List Bytes → List Bytes → List Bytes
insert_all [] set = set
insert_all (k ∷ ks) set = insert_all ks (insert k set)

-- the active ones with this one, in the place of the one that has its id, if any
unfoldable pub put : Txn → List Txn → List Txn
put t [] = t ∷ []
put t (u ∷ us) = stands (order t.id u.id) (t ∷ u ∷ us) (t ∷ us) (u ∷ put t us)

unfoldable pub find : Bytes → List Txn → Option Txn
find i [] = none
find i (u ∷ us) = cond (equal i u.id) (some u) (find i us)

unfoldable pub without : Bytes → List Txn → List Txn
without i us = keep (λ u. not (equal i u.id)) us

-- "Minimum: smallest active start."
unfoldable pub least_of : Txn → List Txn → ℕ
least_of t [] = t.start
least_of t (u ∷ us) = min t.start (least_of u us)

abbrev pub least : List Txn → Option ℕ
least [] = none
least (t ∷ ts) = some (least_of t ts)

-- what leaves the list of entries leaves it here
abbrev pub keep_only : (Entry → Bool) → State → State
keep_only p s = with_entries (keep p s.entries) s

-- "Pruning keeps entries with sequence >= the smallest active start; with nobody active it empties the list."
unfoldable pub in_reach : List Txn → Entry → Bool
in_reach [] e = false
in_reach (t ∷ ts) e = leb (least_of t ts) e.seq

abbrev pub prune : List Txn → List Entry → List Entry
prune ts es = keep (in_reach ts) es

abbrev pub pruned : State → State
pruned s = keep_only (in_reach s.active) s

-- "if nobody is active now, the list is emptied"
unfoldable pub any_active : List Txn → Entry → Bool
any_active [] e = false
any_active (t ∷ ts) e = true

abbrev pub emptied_if_idle : State → State
emptied_if_idle s = keep_only (any_active s.active) s

-- nobody is active: all leave the list
abbrev pub emptied : State → State
emptied s = emptied_if_idle (with_active [] s)

-- a key "in the write set, read set or a range"
unfoldable pub tracks : Txn → Bytes → Bool
tracks t k = any (equal k) t.writes || any (equal k) t.reads || any (λ r. holds r k) t.ranges

-- "Check: conflict if some entry's sequence is strictly greater than the start and it wrote a key in the write set, read
-- set or a range."
unfoldable pub conflict : Txn → List Entry → Bool
conflict t es = any (λ e. ltb t.start e.seq && any (tracks t) e.keys) es
