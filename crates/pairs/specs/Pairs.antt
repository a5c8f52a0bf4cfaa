-- The cases that document 01 marks P, in its order, as one list of statements.
use Rattle.std.specs.Prelude.{ℕ, ◌≡◌, true, false, List, [], ◌∷◌, ◌↔◌, replicate, Some, None}
use Rattle.std.proofs.Math.Option.{none, some}
use mathlib.Core.Ordering.{lt}
use Rattle.keys.specs.Order.{order}
use Rattle.bounds.specs.declared.sides.Side.TheVariants.{First, Second}
use Rattle.bounds.specs.Sides.{sides}
use Rattle.kinds.specs.Bounds.{unbounded, included, excluded}
use Rattle.bounds.specs.Ranges.{Range, range, holds, not_empty, touches, union_of}
use Rattle.ranges.specs.Made.{status}
use Rattle.ranges.specs.Making.{new_of}
use Rattle.ranges.specs.Prefixes.{increment, subrange_of}
use Rattle.machine.specs.declared.Which.TheVariants.{Writes}
use Rattle.machine.specs.State.{Bytes, Txn, State, base, new_txn, fresh_state, with_last, with_active, with_entries}
use Rattle.machine.specs.Calls.{Room, holding, on, check, commit, drop_txn, minimum, replied}
use Rattle.machine.specs.Serve.{entry, add_keys, serve}

abbrev Key : Type 0
Key = List ℕ

-- document 01's keys: [61], [61 00], [62], [62 00], [63]
abbrev k61 : Key
k61 = 97 ∷ []

abbrev k6100 : Key
k6100 = 97 ∷ 0 ∷ []

abbrev k62 : Key
k62 = 98 ∷ []

abbrev k6200 : Key
k6200 = 98 ∷ 0 ∷ []

abbrev k63 : Key
k63 = 99 ∷ []

-- "isn't empty by the rule and holds no key"
abbrev pub Hollow : Range → Type 0
Hollow r = (not_empty r ≡ true) × ((k : Key) → holds r k ≡ false)

-- "subrange unbounded to excluded empty"
abbrev below_empty : Range
below_empty = range unbounded (excluded [])

-- ids A and B; A has started at 7 and writes [6b], B has started at 8, and an entry wrote [6b]
abbrev A : Bytes
A = replicate 16 10

abbrev B : Bytes
B = replicate 16 11

abbrev k6b : Key
k6b = 107 ∷ []

abbrev writer : Txn
writer = add_keys Writes (k6b ∷ []) (new_txn A 7)

abbrev entered : List Txn → ℕ → State
entered active n = with_entries (entry n (k6b ∷ []) ∷ []) (with_active active (fresh_state 8))

abbrev alone : ℕ → State
alone n = entered (writer ∷ []) n

abbrev room : ℕ → Room
room n = holding (entered (writer ∷ new_txn B 8 ∷ []) n)

abbrev pub cases : List (Type 0)
cases =
    -- "[61] < [61 00] < [62]."
    ((order k61 k6100 ≡ lt) × (order k6100 k62 ≡ lt))
    ∷  -- "increment of [61 ff] is [62]; of [ff ff], none."
    ((increment (97 ∷ 255 ∷ []) ≡ some k62) × (increment (255 ∷ 255 ∷ []) ≡ none))
    ∷  -- "excluded k to included k is empty; included k to included k holds only k."
    ((k : Key) → (not_empty (range (excluded k) (included k)) ≡ false) × ((l : Key) → (holds (range (included k) (included k)) l ≡ true) ↔ (l ≡ k)))
    ∷  -- "excluded [61] to excluded [61 00] isn't empty by the rule and holds no key."
    Hollow (range (excluded k61) (excluded k6100))
    ∷  -- "unbounded to excluded empty key: the same."
    Hollow below_empty
    ∷  -- "[61]..included [62] touches excluded [62]..[63]: union."
    ((touches (range (included k61) (included k62)) (range (excluded k62) (excluded k63)) ≡ true)
    × (union_of (range (included k61) (included k62)) (range (excluded k62) (excluded k63)) ≡ Some (sides First Second)))
    ∷  -- "[61]..included [62] and included [62 00]..[63]: no union."
    (union_of (range (included k61) (included k62)) (range (included k6200) (excluded k63)) ≡ None)
    ∷  -- "prefix [61], subrange unbounded to excluded empty: status 5."
    (status (new_of (subrange_of k61 below_empty)) ≡ 5)
    ∷  -- "empty prefix, same subrange: accepted."
    (status (new_of (subrange_of [] below_empty)) ≡ 0)
    ∷  -- "entry 7, start 7: no conflict, yet kept when the minimum is 7."
    ((serve base (room 7) (on (check A)) ≡ replied 0 0 (room 7))
    × (serve base (room 7) (on (drop_txn B)) ≡ replied 0 1 (holding (alone 7)))
    × ((serve base (holding (alone 7)) (on minimum)).value ≡ 7))
    ∷  -- "entry 8, start 7, shared key: conflict."
    (serve base (room 8) (on (check A)) ≡ replied 0 1 (room 8))
    ∷  -- "commit of an unknown id at 9 when last is 7: status 1, value 9."
    (serve base (holding (fresh_state 7)) (on (commit A 9)) ≡ replied 1 9 (holding (with_last 9 (fresh_state 7))))
    ∷ []

-- all statements of a list
abbrev pub Every : List (Type 0) → Type 0
Every [] = Unit {0}
Every (p ∷ ps) = p × Every ps
