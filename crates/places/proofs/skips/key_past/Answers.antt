-- A key ends behind its length and its bytes.
use native.Mathlib.Omega.{arith}
use Rattle.layout.proofs.OpenLaws.{open_key}
use Rattle.places.proofs.EndLaws.{ends_at, key_end}
use Rattle.places.proofs.skips.key_past.Goals as goal

pub read_two-requires : goal.read_two-requires
read_two-requires c = (open_key _ c.requires.fills).length_at.inside

pub overflow_add-result-2 : goal.overflow_add-result-2
overflow_add-result-2 c = omega (arith, key_end _ c.requires.fills c.read_two.ensures)

pub returns : goal.returns
returns c = ends_at _ c.requires.fills (key_end _ c.requires.fills c.read_two.ensures)
