-- The payload is cut where its id ends, and what follows it are the bounds.
use Rattle.machine.specs.Calls.{track_range}
use Rattle.script.proofs.CallLaws.{served_as, split_as}
use Rattle.script.proofs.served.serve_range.Goals as goal

pub returns : goal.returns
returns c = served_as (split_as track_range c.id_end.ensures c.split_at.ensures.front c.split_at.ensures.back) c.track_read_range.ensures
