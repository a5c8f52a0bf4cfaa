-- The records stand behind their count, and the list ends where they do.
use Rattle.layout.proofs.OpenLaws.{open_ranges}
use Rattle.places.proofs.EndLaws.{list_rows, list_ends}
use Rattle.places.proofs.skips.ranges_past.Goals as goal

pub read_two-requires : goal.read_two-requires
read_two-requires c = (open_ranges _ c.requires.fills).count_at.inside

pub row_past-requires : goal.row_past-requires
row_past-requires c = list_rows _ _ (open_ranges _ c.requires.fills) c.read_two.ensures

pub returns : goal.returns
returns c = list_ends _ _ _ c.requires.fills (open_ranges _ c.requires.fills) c.read_two.ensures c.row_past.ensures
