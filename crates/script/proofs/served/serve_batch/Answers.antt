-- A payload that begins with a sequence is that batch with the bytes behind it as its list, and a shorter one is no call.
use Rattle.script.proofs.CallLaws.{served_as, batch_is, batch_none}
use Rattle.script.proofs.served.serve_batch.Goals as goal

pub returns-then-payload-lt-NUMBER : goal.returns-then-payload-lt-NUMBER
returns-then-payload-lt-NUMBER c = served_as (batch_none c.args.payload.now c.if-payload-lt-NUMBER.true) c.refuse.ensures

pub returns : goal.returns
returns c = served_as (batch_is c.read_eight-seq.ensures) c.track_recent_committed_write_batch.ensures
