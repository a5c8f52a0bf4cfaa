-- The writes are copied before their owner is taken out, so that the entry holds them.
use native.Mathlib.Omega.{arith}
use Rattle.places.proofs.EndLaws.{here_of, writes_here}
use Rattle.tracks.proofs.DraftLaws.{zeros, zeros_long}
use Rattle.commits.proofs.LeaveLaws.{writes_span, copy_fits, copied_fits, entry_fits, entered}
use Rattle.commits.proofs.commit.enter_writes.Goals as goal

pub set_past-past-requires : goal.set_past-past-requires
set_past-past-requires c = writes_here (here_of _ c.requires.fills)

pub overflow_sub-size : goal.overflow_sub-size
overflow_sub-size c = omega (arith, (writes_span c.requires c.set_past-past.ensures).from, (writes_span c.requires c.set_past-past.ensures).to)

pub slice_bounds-copy_in-count : goal.slice_bounds-copy_in-count
slice_bounds-copy_in-count c = let w = (writes_span c.requires c.set_past-past.ensures) in omega (arith, w.from, w.to)

pub slice_bounds-copy_in-start : goal.slice_bounds-copy_in-start
slice_bounds-copy_in-start c = let w = (writes_span c.requires c.set_past-past.ensures) in omega (arith, w.from, w.to)

pub slice_bounds-copy_in-end-2 : goal.slice_bounds-copy_in-end-2
slice_bounds-copy_in-end-2 c = let w = (writes_span c.requires c.set_past-past.ensures) in omega (arith, w.inside, w.within, w.room)

pub copy_in-requires : goal.copy_in-requires
copy_in-requires c = copy_fits (writes_span c.requires c.set_past-past.ensures) zeros zeros_long

pub slice_bounds-draft-end : goal.slice_bounds-draft-end
slice_bounds-draft-end c = copied_fits (writes_span c.requires c.set_past-past.ensures) zeros zeros_long c.copy_in.ensures

pub put_entry-requires : goal.put_entry-requires
put_entry-requires c = entry_fits (writes_span c.requires c.set_past-past.ensures) zeros zeros_long c.copy_in.ensures c.remove.ensures

pub returns : goal.returns
returns c = entered _ zeros c.set_past-past.ensures c.copy_in.ensures c.remove.ensures c.put_entry.ensures
