-- Status, space, value and the line's end are put one behind the other.
use mathlib.Core.Path.{ap}
use native.Mathlib.Omega.{arith}
use lib.ListN.{length}
use Rattle.script.specs.Lines.{decimal}
use Rattle.script.proofs.LineLaws.{byte_short, word_short, put_answer}
use Rattle.script.proofs.lines.put_line.Goals as goal

pub put_decimal-space-requires : goal.put_decimal-space-requires
put_decimal-space-requires c = rw c.from.ensures (omega (arith, byte_short c.args.status (omega arith)))

pub put_text-from-requires : goal.put_text-from-requires
put_text-from-requires c = omega (arith, byte_short c.args.status (omega arith), ap (λ n. length (decimal n)) c.from.ensures)

pub put_decimal-to-requires : goal.put_decimal-to-requires
put_decimal-to-requires c = omega (arith, byte_short c.args.status (omega arith), ap (λ n. length (decimal n)) c.from.ensures, word_short c.args.value (omega arith))

pub put_text-requires : goal.put_text-requires
put_text-requires c = omega (arith, byte_short c.args.status (omega arith), ap (λ n. length (decimal n)) c.from.ensures, word_short c.args.value (omega arith))

pub returns : goal.returns
returns c = put_answer c.requires (omega arith) (omega arith) (rw c.from.ensures at c.put_decimal-space.ensures) c.put_text-from.ensures c.put_decimal-to.ensures c.put_text.ensures
