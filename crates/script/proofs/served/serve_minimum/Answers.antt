-- An empty payload is the call, and any other is none.
use native.Mathlib.Omega.{arith}
use Rattle.script.proofs.CallLaws.{served_as, minimum_is, minimum_none}
use Rattle.script.proofs.served.serve_minimum.Goals as goal

pub returns-then-not-is_empty : goal.returns-then-not-is_empty
returns-then-not-is_empty c = served_as (minimum_none c.args.payload.now (grind arith)) c.refuse.ensures

pub returns : goal.returns
returns c = served_as (minimum_is c.args.payload.now (grind arith)) c.min_active_seq.ensures
