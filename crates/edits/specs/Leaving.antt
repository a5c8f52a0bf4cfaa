-- What leaves the list of entries, in a room's bytes: pruning for those who are active, and emptying when nobody is.
use Rattle.std.specs.Prelude.{ℕ, ◌≤◌, ◌<◌, ◌^◌, ◌≡◌, List, ◌++◌, leb, length, take, drop}
use Rattle.machine.specs.Lists.{All, keep}
use Rattle.machine.specs.State.{Entry, State, Ceilings, with_last}
use Rattle.machine.specs.Sets.{pruned, emptied}
use Rattle.codec.specs.Codec.{write_run}
use Rattle.layout.specs.Offsets.{number_size, entries_at, any_length}
use Rattle.layout.specs.Records.{entry_form, txn_form}
use Rattle.layout.specs.States.{heads_of}
use Rattle.layout.specs.Rows.{Row}
use Rattle.layout.proofs.LoadLaws.{ChangedBy}
use Rattle.edits.specs.declared.leaving.Kept.{Kept}
use Rattle.edits.specs.Laid.{Laid, write_entries, write_active}

-- ---- the entries alone

-- "Pruning keeps entries with sequence >= the smallest active start"
abbrev pub kept_from : ℕ → List Entry → List Entry
kept_from least es = keep (λ x. leb least x.seq) es

-- behind the heads stand the entries that are kept; the bytes behind all entries are as they were
pub record PrunedTo (s : List ℕ) (least : ℕ) (es : List Entry) (e : ℕ) (s' : List ℕ) (k : Kept) : Type 0 where
  pub bytes : take k.end s' ≡ take entries_at s ++ write_run (entry_form any_length) (kept_from least es)
  pub after : drop e s' ≡ drop e s
  pub size : length s' ≡ length s
  pub count : k.count ≡ length (kept_from least es)
  pub within : k.end ≤ e

pub record Prunes (s : List ℕ) (n least : ℕ) (s' : List ℕ) (k : Kept) : Type 0 where
  pub is : (es : List Entry) (e : ℕ) → Row (entry_form any_length) s entries_at es e → length es ≡ n → PrunedTo s least es e s' k

-- ---- the whole record

-- the first `used` bytes are the record of a state; not of a machine state if entries stand while nobody is active
pub record Unpruned (L : Ceilings) (s : List ℕ) (st : State) (middle used : ℕ) : Type 0 where
  pub laid : Laid L s s used (heads_of st) (write_entries st.entries) (write_active st.active)
  pub entries : Row (entry_form any_length) s entries_at st.entries middle
  pub active : Row (txn_form any_length) s middle st.active used
  pub started : All (λ t. t.start ≤ st.last) st.active
  pub small : st.last < 256 ^ number_size

-- the numbers that the code has of such a state
pub record Tells (st : State) (l n k : ℕ) : Type 0 where
  pub last : st.last ≡ l
  pub entries : length st.entries ≡ n
  pub active : length st.active ≡ k

pub record Prunable (s : List ℕ) (last n k middle used : ℕ) : Type 0 where
  pub ceilings : Ceilings
  pub state : State
  pub stands : Unpruned ceilings s state middle used
  pub tells : Tells state last n k

-- "Pruning keeps entries with sequence >= the smallest active start; with nobody active it empties the list."
pub record PrunedFor (L : Ceilings) (s : List ℕ) (st : State) (s' : List ℕ) (r : ℕ) : Type 0 where
  pub changed : ChangedBy L s s' (pruned st)
  pub count : r ≡ length (pruned st).entries

pub record Recycled (s : List ℕ) (last n k middle used : ℕ) (s' : List ℕ) (r : ℕ) : Type 0 where
  pub is : (L : Ceilings) (st : State) → Unpruned L s st middle used → Tells st last n k → PrunedFor L s st s' r

-- "if nobody is active now, the list is emptied": of the heads the number and the two counts are written, and nothing else
pub record Emptied (s : List ℕ) (last : ℕ) (s' : List ℕ) : Type 0 where
  pub changed : (L : Ceilings) (st : State) (used : ℕ) → Laid L s s used (heads_of st) (write_entries st.entries) (write_active st.active) → last < 256 ^ number_size
      → ChangedBy L s s' (emptied (with_last last st))
