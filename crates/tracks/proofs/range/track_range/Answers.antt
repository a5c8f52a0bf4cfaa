-- Answered in the table's order: malformed, a key too long, an empty range, not active, full; else the range stands behind the others.
use native.Mathlib.Omega.{arith}
use Rattle.answers.proofs.SeenLaws.{active_rows}
use Rattle.answers.proofs.FoundLaws.{within}
use Rattle.tracks.proofs.RangeLaws.{range_refused, range_bad, range_absent, range_full, appendable, range_done}
use Rattle.answers.proofs.SaidLaws.{refuses}
use Rattle.tracks.proofs.range.track_range.Goals as goal

pub returns-then-id-ne-ID : goal.returns-then-id-ne-ID
returns-then-id-ne-ID c = range_refused c.requires _ _ c.if-id-ne-ID.true

pub returns-in_err-size : goal.returns-in_err-size
returns-in_err-size c = refuses _ _ c.from_residual.ensures.1 (range_bad c.requires _ _ (omega arith) _ c.in_err-size.ensures)

pub find_txn-requires : goal.find_txn-requires
find_txn-requires c = active_rows c.requires

pub returns-in_default : goal.returns-in_default
returns-in_default c = range_absent c.requires _ _ (omega arith) c.in_ok-size.ensures c.in_default.ensures

pub left-requires : goal.left-requires
left-requires c = within c.requires

pub returns-in_err-spend : goal.returns-in_err-spend
returns-in_err-spend c = refuses _ _ c.from_residual-in_err-spend.ensures.1 (range_full c.requires _ _ (omega arith) c.in_ok-size.ensures c.in-Ok.ensures c.left.ensures.marks c.left.ensures.bytes c.in_err-spend.ensures)

pub append_range-requires : goal.append_range-requires
append_range-requires c = appendable c.requires _ _ (omega arith) c.in_ok-size.ensures c.in-Ok.ensures c.left.ensures.marks c.left.ensures.bytes (λ i. omega (arith, c.type_inv.bounds i)) c.in_ok-spend.ensures

pub returns : goal.returns
returns c = range_done c.requires _ _ (omega arith) c.in_ok-size.ensures c.in-Ok.ensures c.left.ensures.marks c.left.ensures.bytes (λ i. omega (arith, c.type_inv.bounds i)) c.in_ok-spend.ensures c.append_range.ensures
