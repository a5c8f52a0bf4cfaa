-- The record of a set in a draft, and what it is when the keys of a list are added.
use Rattle.std.specs.Prelude.{ℕ, ◌+◌, ◌*◌, ◌≤◌, ◌≡◌, List, Result, Ok, Err, length, take, drop}
use Rattle.std.proofs.Math.Option.{some}
use Rattle.fields.specs.Fields.{key_list}
use Rattle.machine.specs.State.{Bytes, base, set_bytes}
use Rattle.machine.specs.Sets.{insert_all}
use Rattle.layout.specs.Offsets.{count_size, length_size, any_length}
use Rattle.layout.specs.Keys.{set_form}
use Rattle.layout.specs.Rows.{Row}
use Rattle.tracks.specs.Sets.{key_codec, Ready, PassesLimits}
use Rattle.tracks.specs.declared.sets.Set.{Set}
use Rattle.tracks.specs.declared.sets.Space.{Space}
use Rattle.tracks.specs.declared.sets.Full.{Full}

-- what the record of the largest set takes: its count, and two bytes for each mark beside the key bytes
abbrev pub set_size : ℕ
set_size = count_size + length_size * base.marks + base.bytes

-- the keys stand behind the first two bytes
pub record Begun (d : Bytes) (set : Set) (list : Bytes) (space : Space) : Type 0 where
  pub head : count_size ≤ length d
  pub keys : Ready (drop count_size d) set list space

-- the first bytes are the record of the set `all`, of which `ks` were there before, within the limits
pub record SetStands (d : Bytes) (ks all : List Bytes) (space : Space) (set : Set) : Type 0 where
  pub whole : take set.used d ≡ (set_form any_length).write all
  pub inside : set.used ≤ length d
  pub count : set.count ≡ length all
  pub few : length all ≤ length ks + space.marks
  pub small : set_bytes all ≤ set_bytes ks + space.bytes

abbrev pub DraftedOutcome : Bytes → List Bytes → List Bytes → Space → Result Set Full → Type 0
DraftedOutcome d ks all space (Ok set) = SetStands d ks all space set
DraftedOutcome d ks all space (Err e) = PassesLimits ks all space

-- for every set that the used bytes can be read as, and every list of keys
pub record DraftedIs (d : Bytes) (set : Set) (list : Bytes) (space : Space) (d' : Bytes) (r : Result Set Full) : Type 0 where
  pub is : (ks keys : List Bytes) → Row key_codec (drop count_size d) 0 ks set.used → length ks ≡ set.count → key_list list ≡ some keys → DraftedOutcome d' ks (insert_all keys ks) space r
  pub size : length d' ≡ length d
