-- A transaction is an id, a start, two sets and a list of ranges; the first of them that is missing cuts it.
use native.Mathlib.Omega.{arith}
use Rattle.room.proofs.EntryLaws.{txn_short, no_writes, no_reads, no_ranges, txn_got}
use Rattle.room.proofs.record.TxnsChained.one_end.Goals as goal

pub returns-then-room-at-lt-WRITES : goal.returns-then-room-at-lt-WRITES
returns-then-room-at-lt-WRITES c = txn_short _ _ _ c.if-room-at-lt-WRITES.true

pub returns-in_err-writes : goal.returns-in_err-writes
returns-in_err-writes c = rw c.from_residual.ensures (no_writes _ _ _ _ (omega arith) c.read_eight-high.ensures c.in_err-writes.ensures)

pub returns-in_err-reads : goal.returns-in_err-reads
returns-in_err-reads c = rw c.from_residual-in_err-reads.ensures (no_reads _ _ _ _ (omega arith) c.read_eight-high.ensures c.in_ok-writes.ensures c.in_err-reads.ensures)

pub returns-in_err-ranges : goal.returns-in_err-ranges
returns-in_err-ranges c = rw c.from_residual-in_err-ranges.ensures (no_ranges _ _ _ _ (omega arith) c.read_eight-high.ensures c.in_ok-writes.ensures c.in_ok-reads.ensures c.in_err-ranges.ensures)

pub returns : goal.returns
returns c = txn_got _ _ _ _ (omega arith) c.read_eight-high.ensures c.in_ok-writes.ensures c.in_ok-reads.ensures c.in_ok-ranges.ensures _ c.joined.ensures _ c.joined-all.ensures
