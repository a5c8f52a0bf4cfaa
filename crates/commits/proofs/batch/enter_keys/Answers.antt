-- The draft holds the set of the list's keys within what the totals leave, or the batch is refused.
use Rattle.answers.proofs.SaidLaws.{refuses}
use Rattle.answers.proofs.FoundLaws.{within}
use Rattle.tracks.proofs.DraftLaws.{zeros, zeros_long}
use Rattle.commits.proofs.BatchLaws.{begun, set_inside, batch_room, batch_entered, batch_over}
use mathlib.Core.Path.{sym}
use lib.Seq.{length-take-le}
use native.Mathlib.Omega.{arith}
use Rattle.commits.proofs.batch.enter_keys.Goals as goal

pub left-requires : goal.left-requires
left-requires c = within c.requires.0

pub draft_keys-requires : goal.draft_keys-requires
draft_keys-requires c = begun zeros c.requires.1 zeros_long (omega (arith, c.left.ensures.marks)) (omega (arith, c.left.ensures.bytes))

pub returns-in_err-set : goal.returns-in_err-set
returns-in_err-set c = refuses _ _ c.from_residual.ensures.1 (batch_over c.requires.0 c.requires.1 c.left.ensures.marks c.left.ensures.bytes c.in_err-set.ensures)

pub slice_bounds-draft-end : goal.slice_bounds-draft-end
slice_bounds-draft-end c = set_inside c.requires.0 c.requires.1 c.left.ensures.marks c.left.ensures.bytes c.in_ok-set.ensures

pub slice_bounds-put_entry-end : goal.slice_bounds-put_entry-end
slice_bounds-put_entry-end c = sym (length-take-le _ _ (set_inside c.requires.0 c.requires.1 c.left.ensures.marks c.left.ensures.bytes c.in_ok-set.ensures))

pub put_entry-requires : goal.put_entry-requires
put_entry-requires c = batch_room c.requires.0 c.requires.1 c.left.ensures.marks c.left.ensures.bytes c.in_ok-set.ensures

pub returns : goal.returns
returns c = batch_entered c.requires.0 c.requires.1 c.left.ensures.marks c.left.ensures.bytes c.in_ok-set.ensures c.put_entry.ensures c.write_two.ensures c.advance_committed_seq.ensures (omega (arith, c.ranges.seq))
