-- A bound ends behind its tag, its length and its key.
use native.Mathlib.Omega.{arith}
use Rattle.layout.proofs.OpenLaws.{open_key, open_bound}
use Rattle.places.proofs.EndLaws.{ends_at, bound_end}
use Rattle.places.proofs.skips.bound_past.Goals as goal

pub read_two-requires : goal.read_two-requires
read_two-requires c = (open_key _ (open_bound _ c.requires.fills).key).length_at.inside

pub overflow_add-result-2 : goal.overflow_add-result-2
overflow_add-result-2 c = omega (arith, bound_end _ c.requires.fills c.read_two.ensures)

pub returns : goal.returns
returns c = ends_at _ c.requires.fills (bound_end _ c.requires.fills c.read_two.ensures)
