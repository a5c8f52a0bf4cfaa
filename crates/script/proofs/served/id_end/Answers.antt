-- An id is the first sixteen bytes, or all bytes of a shorter payload.
use Rattle.script.proofs.CallLaws.{id_ends}
use Rattle.script.proofs.served.id_end.Goals as goal

pub returns : goal.returns
returns c = id_ends _ c.min.ensures
