-- The digits above are put first, then the last one: together they are the decimal of the number.
use Rattle.script.proofs.lines.+put_decimal.Given as goal

abbrev pub decreases-put_decimal : goal.decreases-put_decimal
decreases-put_decimal l = l.n
