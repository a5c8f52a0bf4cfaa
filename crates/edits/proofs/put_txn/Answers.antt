-- The id and the start stand before three empty lists, and the record is put in whole.
use lib.ListN.{replicate}
use mathlib.Core.Path.{refl}
use Rattle.std.proofs.lemmas.Slice.{put_mid-paste}
use Rattle.layout.specs.Offsets.{id_size, txn_size}
use Rattle.edits.proofs.EditLaws.{txn_put}
use Rattle.edits.proofs.put_txn.Goals as goal

pub returns : goal.returns
returns c =
    txn_put _ _ _ _ _ _ _ _ _ refl c.requires.2
    (put_mid-paste 0 id_size (replicate txn_size 0) _ c.args.id.now _ c.copy_from_slice.ensures.after c.requires.2 refl)
    c.write_eight.ensures c.splice.ensures
