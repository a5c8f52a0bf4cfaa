-- What the walk goes over one after another: keys of a set, ranges, entries, transactions. The key limit is any number m.
use Rattle.std.specs.Prelude.{ℕ, ◌+◌, ◌≤◌, ◌≡◌, Bool, true, ◌||◌, List, eqb}
use Rattle.machine.specs.Lists.{sum}
use Rattle.machine.specs.State.{Bytes}
use Rattle.layout.specs.Offsets.{id_size, length_size}
use Rattle.layout.specs.Keys.{any_order, below, list_form}
use Rattle.layout.specs.Rows.{Fills}
use Rattle.layout.specs.States.{highest}
use Rattle.room.specs.Counts.{Counted, a_key, a_txn, run_of}
use Rattle.room.specs.Walks.{between}

-- how one is counted, and which may come before which; by the bytes, whether the one from e up to next may come after the one from p up to e, where
-- none comes before if p is e; and what each takes at least
pub record Chain : Type 1 where
  pub Of : Type 0
  pub one : Counted Of
  pub before : Of → Of → Bool
  pub follows : List ℕ → ℕ → ℕ → ℕ → Bool
  pub least : ℕ

-- in any order
abbrev pub loose : {A : Type 0} → Counted A → Chain
loose {A} K = record { Of = A; one = K; before = any_order; follows = λ s p e next. true; least = 0 }

-- each label above the one before; the label of the one from p up to e is found in the bytes, and each takes k bytes at least
abbrev pub ascending : {A : Type 0} → Counted A → (A → Bytes) → (List ℕ → ℕ → ℕ → Bytes) → ℕ → Chain
ascending {A} K label label_at k = record {
  Of = A;
  one = K;
  before = λ a b. below (label a) (label b);
  follows = λ s p e next. eqb p e || below (label_at s p e) (label_at s e next);
  least = k;
}

-- "no key twice in a set": keys ascend; a key is its own label, and stands behind its length
abbrev pub key_from : List ℕ → ℕ → ℕ → Bytes
key_from s p e = between s (p + length_size) e

abbrev pub the_keys : ℕ → Chain
the_keys m = ascending (a_key m) (λ k. k) key_from length_size

-- "ids distinct": transactions ascend by id, which stands first
abbrev pub id_from : List ℕ → ℕ → ℕ → Bytes
id_from s p e = between s p (p + id_size)

abbrev pub the_txns : ℕ → Chain
the_txns m = ascending (a_txn m) (λ t. t.id) id_from id_size

-- n of them
abbrev pub chain_of : (C : Chain) → ℕ → Counted (List C.Of)
chain_of C n = run_of C.one C.before n

-- so many of them behind their count
abbrev pub list_of : (C : Chain) → Counted (List C.Of)
list_of C = record { form = list_form C.one.form C.before; marks = sum C.one.marks; bytes = sum C.one.bytes; high = highest C.one.high }

-- what the bytes tell of a chain: each takes its least, the first may be any, and whether one may follow another
pub record Linked (C : Chain) : Type 0 where
  pub takes : (s : List ℕ) (at e : ℕ) (a : C.Of) → Fills C.one.form s at a e → at + C.least ≤ e
  pub first : (s : List ℕ) (at e : ℕ) → C.follows s at at e ≡ true
  pub is : (s : List ℕ) (p e next : ℕ) (a b : C.Of) → Fills C.one.form s p a e → Fills C.one.form s e b next → C.follows s p e next ≡ C.before a b
