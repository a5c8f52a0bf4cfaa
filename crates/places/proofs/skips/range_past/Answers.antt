-- The end stands behind the start, and the range ends where the end does.
use Rattle.layout.proofs.OpenLaws.{open_range}
use Rattle.places.proofs.EndLaws.{here_of, ends_as, fills_after}
use Rattle.places.proofs.skips.range_past.Goals as goal

pub bound_past-requires : goal.bound_past-requires
bound_past-requires c = here_of _ (open_range _ c.requires.fills).start

pub bound_past-requires-2 : goal.bound_past-requires-2
bound_past-requires-2 c = let o = open_range _ c.requires.fills in here_of _ (fills_after _ _ c.bound_past.ensures o.start o.end)

pub returns : goal.returns
returns c = let o = open_range _ c.requires.fills in
    ends_as _ _ c.requires.fills (fills_after _ _ c.bound_past.ensures o.start o.end) c.bound_past-2.ensures
