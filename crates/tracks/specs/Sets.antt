-- A set of keys that stands at the front of a draft, and what it is when the keys of a list are added.
use Rattle.std.specs.Prelude.{ℕ, ◌+◌, ◌*◌, ◌≤◌, ◌<◌, ◌≡◌, true, List, ◌∷◌, ◌++◌, ◌⊎◌, Option, Some, None, Result, Ok, Err, length}
use Rattle.std.proofs.Math.Option.{some}
use Rattle.fields.specs.Fields.{key_list}
use Rattle.fields.specs.Forms.{short_keys}
use Rattle.machine.specs.State.{Bytes, set_bytes}
use Rattle.machine.specs.Sets.{insert, insert_all}
use Rattle.layout.specs.Offsets.{length_size, any_length}
use Rattle.codec.specs.Codec.{Codec}
use Rattle.layout.specs.Keys.{key_form}
use Rattle.layout.specs.Rows.{Row}
use Rattle.tracks.specs.declared.sets.Set.{Set}
use Rattle.tracks.specs.declared.sets.Space.{Space}
use Rattle.tracks.specs.declared.sets.Full.{Full}

-- a key of a set
abbrev pub key_codec : Codec Bytes
key_codec = key_form any_length

-- where a new key belongs: after some of the keys and before the others
pub record Between (d key : Bytes) (at : ℕ) (ks : List Bytes) (e : ℕ) : Type 0 where
  pub less : List Bytes
  pub more : List Bytes
  pub whole : ks ≡ less ++ more
  pub with_key : insert key ks ≡ less ++ (key ∷ more)
  pub before : Row key_codec d 0 less at
  pub after : Row key_codec d at more e

-- what the search answers for the set ks
abbrev pub KeyPlaceIn : Bytes → Bytes → Option ℕ → List Bytes → ℕ → Type 0
KeyPlaceIn d key None ks e = insert key ks ≡ ks
KeyPlaceIn d key (Some at) ks e = Between d key at ks e

-- for every set of so many keys that the draft can be read as
pub record KeyPlaceIs (d : Bytes) (count : ℕ) (key : Bytes) (r : Option ℕ) : Type 0 where
  pub is : (ks : List Bytes) (e : ℕ) → Row key_codec d 0 ks e → length ks ≡ count → KeyPlaceIn d key r ks e

-- what a mark with so many key bytes leaves of a space, or that one of the two is too little
pub record Spent (space : Space) (size : ℕ) (rest : Space) : Type 0 where
  pub marks : space.marks ≡ rest.marks + 1
  pub bytes : space.bytes ≡ rest.bytes + size

pub record Lacks (space : Space) (size : ℕ) : Type 0 where
  pub either : (space.marks ≡ 0) ⊎ (space.bytes < size)

abbrev pub SpendIs : Space → ℕ → Result Space Full → Type 0
SpendIs space size (Ok rest) = Spent space size rest
SpendIs space size (Err e) = Lacks space size

-- the set stands in a draft, a length can tell of each of the list's keys, and the draft has bytes for all that there is space for
pub record Ready (d : Bytes) (set : Set) (list : Bytes) (space : Space) : Type 0 where
  pub ks : List Bytes
  pub row : Row key_codec d 0 ks set.used
  pub count : length ks ≡ set.count
  pub keys : List Bytes
  pub listed : key_list list ≡ some keys
  pub short : short_keys any_length keys ≡ true
  pub room : set.used + length_size * space.marks + space.bytes ≤ length d

-- the set `all`, of which `ks` were there before, stands in a draft, within the limits
pub record AllStand (d : Bytes) (ks all : List Bytes) (space : Space) (set : Set) : Type 0 where
  pub row : Row key_codec d 0 all set.used
  pub count : set.count ≡ length all
  pub few : length all ≤ length ks + space.marks
  pub small : set_bytes all ≤ set_bytes ks + space.bytes

-- "track that would pass a total": one of the two totals
abbrev pub PassesLimits : List Bytes → List Bytes → Space → Type 0
PassesLimits ks all space = (length ks + space.marks < length all) ⊎ (set_bytes ks + space.bytes < set_bytes all)

abbrev pub InsertedOutcome : Bytes → List Bytes → List Bytes → Space → Result Set Full → Type 0
InsertedOutcome d ks all space (Ok set) = AllStand d ks all space set
InsertedOutcome d ks all space (Err e) = PassesLimits ks all space

-- for every set that the used bytes can be read as, and every list of keys
pub record InsertedIs (d : Bytes) (set : Set) (list : Bytes) (space : Space) (d' : Bytes) (r : Result Set Full) : Type 0 where
  pub is : (ks keys : List Bytes) → Row key_codec d 0 ks set.used → length ks ≡ set.count → key_list list ≡ some keys → InsertedOutcome d' ks (insert_all keys ks) space r
  pub size : length d' ≡ length d
