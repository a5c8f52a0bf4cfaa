-- Each tag is the call that is made for it, and another tag is no call.
use mathlib.Core.Path.{ap, ◌∙◌}
use Rattle.script.specs.Records.{tag_number}
use Rattle.script.proofs.CallLaws.{served_as, tag_as, tag_none}
use Rattle.script.proofs.served.serve_record.Goals as goal

pub returns-in_default : goal.returns-in_default
returns-in_default c = served_as (tag_none c.args.tag c.args.payload.now c.in_default.ensures) c.refuse.ensures

pub returns-in-Begin : goal.returns-in-Begin
returns-in-Begin c = served_as (tag_as c.args.payload.now (c.in-Ok.ensures ∙ ap tag_number c.in-Begin.is)) c.new_transaction.ensures

pub returns-in-Writes : goal.returns-in-Writes
returns-in-Writes c = served_as (tag_as c.args.payload.now (c.in-Ok.ensures ∙ ap tag_number c.in-Writes.is)) c.serve_keys.ensures

pub returns-in-Reads : goal.returns-in-Reads
returns-in-Reads c = served_as (tag_as c.args.payload.now (c.in-Ok.ensures ∙ ap tag_number c.in-Reads.is)) c.serve_keys-in-Reads.ensures

pub returns-in-Range : goal.returns-in-Range
returns-in-Range c = served_as (tag_as c.args.payload.now (c.in-Ok.ensures ∙ ap tag_number c.in-Range.is)) c.serve_range.ensures

pub returns-in-Check : goal.returns-in-Check
returns-in-Check c = served_as (tag_as c.args.payload.now (c.in-Ok.ensures ∙ ap tag_number c.in-Check.is)) c.check_has_conflict.ensures

pub returns-in-Commit : goal.returns-in-Commit
returns-in-Commit c = served_as (tag_as c.args.payload.now (c.in-Ok.ensures ∙ ap tag_number c.in-Commit.is)) c.serve_commit.ensures

pub returns-in-Batch : goal.returns-in-Batch
returns-in-Batch c = served_as (tag_as c.args.payload.now (c.in-Ok.ensures ∙ ap tag_number c.in-Batch.is)) c.serve_batch.ensures

pub returns-in-Drop : goal.returns-in-Drop
returns-in-Drop c = served_as (tag_as c.args.payload.now (c.in-Ok.ensures ∙ ap tag_number c.in-Drop.is)) c.drop_txn.ensures

pub returns-in-Minimum : goal.returns-in-Minimum
returns-in-Minimum c = served_as (tag_as c.args.payload.now (c.in-Ok.ensures ∙ ap tag_number c.in-Minimum.is)) c.serve_minimum.ensures
