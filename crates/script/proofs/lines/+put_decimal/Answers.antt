-- The digits above are put first, then the last one: together they are the decimal of the number.
use native.Mathlib.Omega.{arith}
use Rattle.script.proofs.LineLaws.{put_low, put_high, room_low, room_high}
use Rattle.script.proofs.lines.+put_decimal.Goals as goal

pub put_text-requires : goal.put_text-requires
put_text-requires t c = room_low c.args.n _ _ (omega arith) c.requires

pub returns-then-n-lt10 : goal.returns-then-n-lt10
returns-then-n-lt10 t c = put_low (omega arith) c.digit.ensures c.put_text.ensures

pub put_decimal-next-requires : goal.put_decimal-next-requires
put_decimal-next-requires t c =
    let x = room_high c.args.n c.args.at _ (omega arith) c.requires in
    (omega (arith, c.decreases), omega (arith, x))

pub put_text-requires-2 : goal.put_text-requires-2
put_text-requires-2 t c =
    let x = room_high c.args.n c.args.at _ (omega arith) c.requires in
    omega (arith, x, c.put_decimal-next.ensures.ends)

pub returns : goal.returns
returns t c = put_high (omega arith) c.digit-2.ensures c.put_decimal-next.ensures c.put_text-2.ensures c.requires
