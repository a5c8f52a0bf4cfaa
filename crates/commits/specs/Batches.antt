-- What an entry of a batch's keys takes, within a batch.
use Rattle.std.specs.Prelude.{◌<◌, ◌≡◌, true, List}
use Rattle.std.proofs.Math.Option.{some}
use Rattle.fields.specs.Fields.{key_list}
use Rattle.fields.specs.Forms.{short_keys}
use Rattle.machine.specs.State.{Bytes, base}
use Rattle.room.specs.declared.View.{View}

-- the list is one of keys within the limit, someone is active, and one more entry may stand
pub record Entering (v : View) (list : Bytes) : Type 0 where
  pub keys : List Bytes
  pub listed : key_list list ≡ some keys
  pub short : short_keys base.key keys ≡ true
  pub active : 0 < v.active
  pub entries : v.entries < base.entries
