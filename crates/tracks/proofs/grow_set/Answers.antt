-- The set's keys are copied behind the first two bytes of a draft, added to there, and the draft's record takes the set's place:
-- what the draft holds is what the room's set becomes.
use mathlib.Core.Path.{sym}
use native.Mathlib.Omega.{arith}
use lib.Seq.{length-take-le}
use Rattle.tracks.proofs.GrowLaws.{head_inside, set_inside, fits_draft, begun, not_grown, in_draft, more_keys, can_put, grown}
use Rattle.tracks.proofs.grow_set.Goals as goal

pub read_two-count-requires : goal.read_two-count-requires
read_two-count-requires c = head_inside c.requires

pub slice_bounds-copy_in-count : goal.slice_bounds-copy_in-count
slice_bounds-copy_in-count c = omega (arith, set_inside c.requires c.set_past-end.ensures)

pub slice_bounds-copy_in-start : goal.slice_bounds-copy_in-start
slice_bounds-copy_in-start c = omega (arith, set_inside c.requires c.set_past-end.ensures)

pub copy_in-requires : goal.copy_in-requires
copy_in-requires c = fits_draft c.requires c.set_past-end.ensures

pub overflow_sub-old : goal.overflow_sub-old
overflow_sub-old c = omega (arith, set_inside c.requires c.set_past-end.ensures)

pub draft_keys-requires : goal.draft_keys-requires
draft_keys-requires c = begun c.requires c.set_past-end.ensures c.read_two-count.ensures c.copy_in.ensures

pub returns-in_err-new : goal.returns-in_err-new
returns-in_err-new c = not_grown c.requires c.set_past-end.ensures c.read_two-count.ensures c.copy_in.ensures _ c.in_err-new.ensures c.from_residual.ensures.0

pub slice_bounds-draft-end : goal.slice_bounds-draft-end
slice_bounds-draft-end c = in_draft c.requires c.set_past-end.ensures c.read_two-count.ensures c.copy_in.ensures c.in_ok-new.ensures

pub slice_bounds-splice-end : goal.slice_bounds-splice-end
slice_bounds-splice-end c = sym (length-take-le _ _ (in_draft c.requires c.set_past-end.ensures c.read_two-count.ensures c.copy_in.ensures c.in_ok-new.ensures))

pub splice-requires : goal.splice-requires
splice-requires c = can_put c.requires c.set_past-end.ensures c.read_two-count.ensures c.copy_in.ensures c.in_ok-new.ensures

pub overflow_sub-result : goal.overflow_sub-result
overflow_sub-result c = more_keys c.requires c.set_past-end.ensures c.read_two-count.ensures c.copy_in.ensures c.in_ok-new.ensures

pub returns : goal.returns
returns c = grown c.requires c.set_past-end.ensures c.read_two-count.ensures c.copy_in.ensures c.in_ok-new.ensures c.splice.ensures
