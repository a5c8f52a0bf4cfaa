-- The bytes stand behind zeros in the eight of the number, so they make it.
use Rattle.std.proofs.Common.{◌+◌, ◌-◌, ◌≡◌, arith}
use Rattle.codec.proofs.NumberLaws.{read_is}
use Rattle.codec.proofs.numbers.read.Goals as goal

pub returns : goal.returns
returns g c =
    let n : c.args.at + g.row.N - c.args.at ≡ g.row.N = omega arith in
    read_is g.row.N _ _ _ _ c.requires.0 c.requires.1 (λ i. omega (arith, c.type_inv.bytes i)) (rw n at c.copy_from_slice.ensures.after) c.from_be_bytes.ensures
