-- A payload of an id and a sequence is that commit, and any other is no call.
use Rattle.script.proofs.CallLaws.{served_as, commit_is, commit_none}
use Rattle.script.proofs.served.serve_commit.Goals as goal

pub returns-then-payload : goal.returns-then-payload
returns-then-payload c = served_as (commit_none c.args.payload.now c.if-payload.true) c.refuse.ensures

pub returns : goal.returns
returns c = served_as (commit_is c.if-payload.false c.read_eight-seq.ensures) c.track_recent_committed_txn.ensures
