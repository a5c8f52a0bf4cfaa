-- What is known of the keys behind the count is known of the whole record, its new count in front.
use native.Mathlib.Omega.{arith}
use Rattle.tracks.proofs.DraftLaws.{end_inside, all_added}
use Rattle.tracks.proofs.drafts.draft_keys.Goals as goal

pub overflow_add-result : goal.overflow_add-result
overflow_add-result c = omega (arith, end_inside c.requires c.in_ok-set.ensures)

pub returns : goal.returns
returns c = all_added c.requires c.in_ok-set.ensures c.write_two.ensures
