-- The last bytes of the number are its record.
use Rattle.std.proofs.Common.{◌∙◌, sym, arith}
use Rattle.std.proofs.lemmas.Slice.{put_mid-paste}
use Rattle.codec.proofs.NumberLaws.{low_bytes, length_number}
use Rattle.codec.proofs.numbers.write.Goals as goal

pub returns : goal.returns
returns g c =
    let bytes = rw c.to_be_bytes.ensures at c.copy_from_slice.ensures.after in
    put_mid-paste _ _ _ _ _ _ (bytes ∙ low_bytes g.row.N c.args.x c.requires.0) (omega arith) (sym (length_number g.row.N c.args.x))
