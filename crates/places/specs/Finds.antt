-- What the searches through the active transactions answer.
use Rattle.std.specs.Prelude.{ℕ, min, ◌≡◌, List, [], ◌∷◌, ◌++◌, Result, Ok, Err, length}
use mathlib.Core.Ordering.{lt, eq, gt}
use Rattle.keys.specs.Order.{order}
use Rattle.fields.specs.declared.Span.{Span}
use Rattle.machine.specs.Lists.{All}
use Rattle.machine.specs.State.{Bytes, Txn}
use Rattle.layout.specs.Offsets.{any_length}
use Rattle.layout.specs.Records.{txn_form}
use Rattle.layout.specs.Rows.{Fills, Row}

-- every one of these has a lesser id
abbrev pub IdsPassed : Bytes → List Txn → Type 0
IdsPassed id ts = All (λ u. order id u.id ≡ gt) ts

-- the first of these, if there is one, has a greater id
abbrev pub Stops : Bytes → List Txn → Type 0
Stops id [] = Unit {0}
Stops id (u ∷ us) = order id u.id ≡ lt

-- of the transactions ts, whose records stand from at up to e, the one with the id stands from p up to q
pub record HereIn (s : List ℕ) (at : ℕ) (id : Bytes) (ts : List Txn) (e p q : ℕ) : Type 0 where
  pub front : List Txn
  pub one : Txn
  pub back : List Txn
  pub whole : ts ≡ front ++ (one ∷ back)
  pub before : Row (txn_form any_length) s at front p
  pub fills : Fills (txn_form any_length) s p one q
  pub after : Row (txn_form any_length) s q back e
  pub same : order id one.id ≡ eq
  pub passed : IdsPassed id front

-- the id belongs to p: those before it have lesser ids, and the first after it, if any, a greater one; where the ids ascend,
-- no one has it (`before_finds`)
pub record BeforeIn (s : List ℕ) (at : ℕ) (id : Bytes) (ts : List Txn) (e p : ℕ) : Type 0 where
  pub front : List Txn
  pub back : List Txn
  pub whole : ts ≡ front ++ back
  pub before : Row (txn_form any_length) s at front p
  pub after : Row (txn_form any_length) s p back e
  pub passed : IdsPassed id front
  pub stops : Stops id back

abbrev pub PlaceIn : List ℕ → ℕ → Bytes → List Txn → ℕ → Result Span ℕ → Type 0
PlaceIn s at id ts e (Ok p) = HereIn s at id ts e p.from p.to
PlaceIn s at id ts e (Err p) = BeforeIn s at id ts e p

pub record Found (s : List ℕ) (at n : ℕ) (id : Bytes) (r : Result Span ℕ) : Type 0 where
  pub is : (ts : List Txn) (e : ℕ) → Row (txn_form any_length) s at ts e → length ts ≡ n → PlaceIn s at id ts e r

-- the least of m and the starts
unfoldable pub lowest : ℕ → List Txn → ℕ
lowest m [] = m
lowest m (t ∷ ts) = lowest (min m t.start) ts

pub record LowestIs (s : List ℕ) (at n most r : ℕ) : Type 0 where
  pub is : (ts : List Txn) (e : ℕ) → Row (txn_form any_length) s at ts e → length ts ≡ n → r ≡ lowest most ts
