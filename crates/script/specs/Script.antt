-- The call that a record is.
use Rattle.std.specs.Prelude.{ℕ, ◌≤◌, ◌≡◌, cond, List, [], ◌∷◌, eqb, length, take, drop}
use Rattle.std.proofs.Math.Option.{Option, none, some}
use Rattle.codec.specs.Codec.{Item, item, cut}
use Rattle.codec.specs.Formats.{number}
use Rattle.machine.specs.declared.Which.{Which}
use Rattle.machine.specs.declared.Which.TheVariants.{Writes, Reads}
use Rattle.machine.specs.State.{id_size}
use Rattle.machine.specs.Calls.{Op, begin, track_keys, track_range, check, commit, batch, drop_txn, minimum, Call, on}
use Rattle.layout.specs.Offsets.{number_size}

-- what a number and the bytes that follow it make, if there is one
abbrev pub with_number : Item ℕ → (ℕ → List ℕ → Option Op) → Option Op
with_number (item n rest) f = f n rest
with_number cut f = none

abbrev pub when_empty : Op → List ℕ → Option Op
when_empty op [] = some op
when_empty op (b ∷ bs) = none

-- "02 writes and 03 reads (id, list)"
abbrev pub keys_of : Which → List ℕ → Op
keys_of which p = track_keys which (take id_size p) (drop id_size p)

-- "06 commit (id, sequence of eight big-endian bytes)"
abbrev pub commit_of : List ℕ → Option Op
commit_of p = with_number ((number number_size).read (drop id_size p)) λ n rest. when_empty (commit (take id_size p) n) rest

-- "07 batch (sequence, list)"
abbrev pub batch_of : List ℕ → Option Op
batch_of p = with_number ((number number_size).read p) λ n list. some (batch n list)

-- "01 begin (id), 02 writes and 03 reads (id, list), 04 range (id, bounds), 05 check (id), .. 08 drop (id), 09 minimum
-- (nothing). Ids and sequences stand raw."; an id that is not 16 bytes is the machine's to refuse, and there is no call where a
-- sequence cannot be had or bytes are left over
abbrev pub call_of : ℕ → List ℕ → Option Op
call_of tag p =
    cond (eqb tag 0x01) (some (begin p))
    (cond (eqb tag 0x02) (some (keys_of Writes p))
    (cond (eqb tag 0x03) (some (keys_of Reads p))
    (cond (eqb tag 0x04) (some (track_range (take id_size p) (drop id_size p)))
    (cond (eqb tag 0x05) (some (check p))
    (cond (eqb tag 0x06) (commit_of p)
    (cond (eqb tag 0x07) (batch_of p)
    (cond (eqb tag 0x08) (some (drop_txn p))
    (cond (eqb tag 0x09) (when_empty minimum p)
    none))))))))

-- "Leftover or missing payload is status 2", after 7: so is every call with an id of no bytes (CallLaws, refused_two)
abbrev pub refused_call : Call
refused_call = on (check [])

abbrev pub as_call : Option Op → Call
as_call none = refused_call
as_call (some op) = on op

abbrev pub called : ℕ → List ℕ → Call
called tag p = as_call (call_of tag p)

-- where a payload's id ends, if it has one
pub record IdEnds (p : List ℕ) (r : ℕ) : Type 0 where
  pub inside : r ≤ length p
  pub id : take id_size p ≡ take r p
  pub rest : drop id_size p ≡ drop r p
