-- Tracks of keys: where the set that they go to stands in a transaction's record, and what it is when the keys of a list are added.
use Rattle.std.specs.Prelude.{ℕ, ◌+◌, ◌-◌, ◌*◌, ◌≤◌, ◌≡◌, true, List, ◌++◌, Result, Ok, Err, length}
use Rattle.std.proofs.Math.Option.{some}
use Rattle.fields.specs.Fields.{key_list}
use Rattle.fields.specs.Forms.{short_keys}
use Rattle.machine.specs.declared.Which.{Which}
use Rattle.machine.specs.declared.Which.TheVariants.{Writes, Reads}
use Rattle.machine.specs.State.{Bytes, Txn, base, set_bytes}
use Rattle.machine.specs.Sets.{insert_all}
use Rattle.layout.specs.Offsets.{length_size, any_length}
use Rattle.moves.specs.Splices.{Spliced}
use Rattle.layout.specs.Keys.{set_form}
use Rattle.layout.specs.Records.{txn_head_form, head_of, txn_form}
use Rattle.layout.specs.Rows.{Fills}
use Rattle.tracks.specs.Sets.{PassesLimits}
use Rattle.tracks.specs.declared.sets.Space.{Space}
use Rattle.tracks.specs.declared.sets.Full.{Full}

-- the bytes of a transaction's record before the set
abbrev pub before_set : Which → Txn → Bytes
before_set Writes t = txn_head_form.write (head_of t)
before_set Reads t = txn_head_form.write (head_of t) ++ (set_form any_length).write t.writes

pub record SetAt (s : Bytes) (txn : ℕ) (which : Which) (r : ℕ) : Type 0 where
  pub is : (t : Txn) (e : ℕ) → Fills (txn_form any_length) s txn t e → r ≡ txn + length (before_set which t)

-- a set stands at a place of the used bytes, a length can tell of each of the list's keys, and what there is space for passes neither
-- a total nor the room
pub record Growable (s : Bytes) (used at : ℕ) (list : Bytes) (space : Space) : Type 0 where
  pub ks : List Bytes
  pub end : ℕ
  pub fills : Fills (set_form any_length) s at ks end
  pub within : end ≤ used
  pub keys : List Bytes
  pub listed : key_list list ≡ some keys
  pub short : short_keys any_length keys ≡ true
  pub few : length ks + space.marks ≤ base.marks
  pub small : set_bytes ks + space.bytes ≤ base.bytes
  pub room : used + length_size * space.marks + space.bytes ≤ length s

-- the record of the set `all` stands in the place of that of `ks`; k of its keys are new
pub record SetGrown (s : Bytes) (used at : ℕ) (ks : List Bytes) (e : ℕ) (all : List Bytes) (space : Space) (s' : Bytes) (k : ℕ) : Type 0 where
  pub spliced : Spliced s used at (e - at) ((set_form any_length).write all) s'
  pub new : length all ≡ length ks + k
  pub few : length all ≤ length ks + space.marks
  pub small : set_bytes all ≤ set_bytes ks + space.bytes

-- "Keeping half of a list that didn't fit" is shut out: no byte is changed
pub record NotGrown (s : Bytes) (ks all : List Bytes) (space : Space) (s' : Bytes) : Type 0 where
  pub same : s' ≡ s
  pub passes : PassesLimits ks all space

abbrev pub GrownOutcome : Bytes → ℕ → ℕ → List Bytes → ℕ → List Bytes → Space → Bytes → Result ℕ Full → Type 0
GrownOutcome s used at ks e all space s' (Ok k) = SetGrown s used at ks e all space s' k
GrownOutcome s used at ks e all space s' (Err x) = NotGrown s ks all space s'

-- for every set that the bytes can be read as, and every list of keys
pub record GrownIs (s : Bytes) (used at : ℕ) (list : Bytes) (space : Space) (s' : Bytes) (r : Result ℕ Full) : Type 0 where
  pub is : (ks keys : List Bytes) (e : ℕ) → Fills (set_form any_length) s at ks e → key_list list ≡ some keys → GrownOutcome s used at ks e (insert_all keys ks) space s' r
