-- A room that is too short holds nothing; any other holds the fresh state afterwards, whatever it held.
use native.Mathlib.Omega.{arith}
use Rattle.layout.proofs.LoadLaws.{fresh_short}
use Rattle.begins.proofs.BeginLaws.{fresh_made}
use Rattle.begins.proofs.make_fresh.Goals as goal

pub returns-then-room-lt-SIZE : goal.returns-then-room-lt-SIZE
returns-then-room-lt-SIZE c = fresh_short _ _ _ c.if-room-lt-SIZE.true

pub returns : goal.returns
returns c = fresh_made (omega arith) c.write_fresh.ensures (omega arith)
