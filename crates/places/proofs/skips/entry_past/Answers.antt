-- An entry ends where its keys do.
use Rattle.layout.proofs.OpenLaws.{open_entry}
use Rattle.places.proofs.EndLaws.{here_of, ends_as}
use Rattle.places.proofs.skips.entry_past.Goals as goal

pub set_past-requires : goal.set_past-requires
set_past-requires c = here_of _ (open_entry _ c.requires.fills).set

pub returns : goal.returns
returns c = ends_as _ _ c.requires.fills (open_entry _ c.requires.fills).set c.set_past.ensures
