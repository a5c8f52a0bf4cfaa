-- The verdict by the places of the two keys is the verdict on the range that the bounds are read as.
use mathlib.Core.Path.{sym}
use mathlib.Core.Logic.{⊎_map}
use native.Mathlib.Omega.{arith}
use Rattle.tracks.proofs.JudgeLaws.{judged_long, judged_good, judged_empty}
use Rattle.tracks.proofs.range.check_range.Goals as goal

pub returns-then-start_size-gt-KEY_LIMIT : goal.returns-then-start_size-gt-KEY_LIMIT
returns-then-start_size-gt-KEY_LIMIT c = judged_long c.in_ok-places.ensures (λ i. omega (arith, c.type_inv.bounds i)) (⊎_map (λ z. z) (λ z. z.1) c.then-start_size-gt-KEY_LIMIT.either)

pub returns : goal.returns
returns c = judged_good c.in_ok-places.ensures (λ i. omega (arith, c.type_inv.bounds i)) _ c.new-range.ensures c.if-start_size-gt-KEY_LIMIT.false c.if-end_size-gt-KEY_LIMIT.false (sym c.if-not-non_empty.ensures)

pub returns-then-not-non_empty : goal.returns-then-not-non_empty
returns-then-not-non_empty c = judged_empty c.in_ok-places.ensures (λ i. omega (arith, c.type_inv.bounds i)) _ c.new-range.ensures c.if-start_size-gt-KEY_LIMIT.false c.if-end_size-gt-KEY_LIMIT.false (sym c.if-not-non_empty.ensures)
