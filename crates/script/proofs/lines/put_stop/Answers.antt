-- The word, a space, the offset and the line's end are put one behind the other.
use native.Mathlib.Omega.{arith}
use Rattle.script.proofs.LineLaws.{word_short, put_end}
use Rattle.script.proofs.lines.put_stop.Goals as goal

pub put_decimal-to-requires : goal.put_decimal-to-requires
put_decimal-to-requires c = omega (arith, word_short c.args.offset (omega arith))

pub put_text-requires : goal.put_text-requires
put_text-requires c = omega (arith, word_short c.args.offset (omega arith))

pub returns : goal.returns
returns c = put_end c.requires (omega arith) c.put_text-from.ensures c.put_decimal-to.ensures c.put_text.ensures
