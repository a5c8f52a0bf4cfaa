-- "Show that any two results allowed for one call are equal": said of each contract at the boundary, as the checker reads
-- it.
use mathlib.Core.Path.{sym, ◌∙◌}
use Rattle.keys.proofs.OneAnswer.{OneAnswer}
use Rattle.stranvek.proofs.bytes_range.stranvek_compare.Kinds as compare-kinds
use Rattle.stranvek.proofs.bytes_range.stranvek_compare.Reads as compare
use Rattle.stranvek.proofs.bytes_range.stranvek_equal.Kinds as equal-kinds
use Rattle.stranvek.proofs.bytes_range.stranvek_equal.Reads as equal
use Rattle.stranvek.proofs.bytes_range.stranvek_starts_with.Kinds as starts-with-kinds
use Rattle.stranvek.proofs.bytes_range.stranvek_starts_with.Reads as starts_with
use Rattle.stranvek.proofs.bytes_range.stranvek_compare_start.Kinds as compare-start-kinds
use Rattle.stranvek.proofs.bytes_range.stranvek_compare_start.Reads as compare-start
use Rattle.stranvek.proofs.bytes_range.stranvek_compare_end.Kinds as compare-end-kinds
use Rattle.stranvek.proofs.bytes_range.stranvek_compare_end.Reads as compare-end
use Rattle.stranvek.proofs.bytes_range.stranvek_compare_range.Kinds as compare-range-kinds
use Rattle.stranvek.proofs.bytes_range.stranvek_compare_range.Reads as compare-range
use Rattle.stranvek.proofs.bytes_range.stranvek_non_empty.Kinds as non-empty-kinds
use Rattle.stranvek.proofs.bytes_range.stranvek_non_empty.Reads as non-empty
use Rattle.stranvek.proofs.bytes_range.stranvek_contains.Kinds as contains-kinds
use Rattle.stranvek.proofs.bytes_range.stranvek_contains.Reads as contains
use Rattle.stranvek.proofs.bytes_range.stranvek_are_adjacent.Kinds as are-adjacent-kinds
use Rattle.stranvek.proofs.bytes_range.stranvek_are_adjacent.Reads as are-adjacent
use Rattle.stranvek.proofs.bytes_range.stranvek_intersect.Kinds as intersect-kinds
use Rattle.stranvek.proofs.bytes_range.stranvek_intersect.Reads as intersect
use Rattle.stranvek.proofs.bytes_range.stranvek_union.Kinds as union-kinds
use Rattle.stranvek.proofs.bytes_range.stranvek_union.Reads as union
use Rattle.stranvek.proofs.bytes_range.stranvek_as_point.Kinds as as-point-kinds
use Rattle.stranvek.proofs.bytes_range.stranvek_as_point.Reads as as-point
use Rattle.stranvek.proofs.bytes_range.stranvek_increment_prefix.Kinds as increment-prefix-kinds
use Rattle.stranvek.proofs.bytes_range.stranvek_increment_prefix.Reads as increment-prefix
use Rattle.stranvek.proofs.bytes_range.stranvek_new_range.Kinds as new-range-kinds
use Rattle.stranvek.proofs.bytes_range.stranvek_new_range.Reads as new-range
use Rattle.stranvek.proofs.bytes_range.stranvek_from_prefix.Kinds as from-prefix-kinds
use Rattle.stranvek.proofs.bytes_range.stranvek_from_prefix.Reads as from-prefix
use Rattle.stranvek.proofs.bytes_range.stranvek_from_prefix_and_subrange.Kinds as from-prefix-and-subrange-kinds
use Rattle.stranvek.proofs.bytes_range.stranvek_from_prefix_and_subrange.Reads as from-prefix-and-subrange

pub one_compare : OneAnswer 2 compare-kinds.ps compare-kinds.r compare.Post
one_compare κs a x y s t p q = p ∙ sym q

pub one_equal : OneAnswer 2 equal-kinds.ps equal-kinds.r equal.Post
one_equal κs a x y s t p q = p ∙ sym q

pub one_starts_with : OneAnswer 2 starts-with-kinds.ps starts-with-kinds.r starts_with.Post
one_starts_with κs a x y s t p q = p ∙ sym q

pub one_compare_start : OneAnswer 2 compare-start-kinds.ps compare-start-kinds.r compare-start.Post
one_compare_start κs a x y s t p q = p ∙ sym q

pub one_compare_end : OneAnswer 2 compare-end-kinds.ps compare-end-kinds.r compare-end.Post
one_compare_end κs a x y s t p q = p ∙ sym q

pub one_compare_range : OneAnswer 4 compare-range-kinds.ps compare-range-kinds.r compare-range.Post
one_compare_range κs a x y s t p q = p ∙ sym q

pub one_non_empty : OneAnswer 2 non-empty-kinds.ps non-empty-kinds.r non-empty.Post
one_non_empty κs a x y s t p q = p ∙ sym q

pub one_contains : OneAnswer 3 contains-kinds.ps contains-kinds.r contains.Post
one_contains κs a x y s t p q = p ∙ sym q

pub one_are_adjacent : OneAnswer 4 are-adjacent-kinds.ps are-adjacent-kinds.r are-adjacent.Post
one_are_adjacent κs a x y s t p q = p ∙ sym q

pub one_intersect : OneAnswer 1 intersect-kinds.ps intersect-kinds.r intersect.Post
one_intersect κs a x y s t p q = p ∙ sym q

pub one_union : OneAnswer 1 union-kinds.ps union-kinds.r union.Post
one_union κs a x y s t p q = p ∙ sym q

pub one_as_point : OneAnswer 2 as-point-kinds.ps as-point-kinds.r as-point.Post
one_as_point κs a x y s t p q = p ∙ sym q

pub one_increment_prefix : OneAnswer 1 increment-prefix-kinds.ps increment-prefix-kinds.r increment-prefix.Post
one_increment_prefix κs a x y s t p q = p ∙ sym q

pub one_new_range : OneAnswer 2 new-range-kinds.ps new-range-kinds.r new-range.Post
one_new_range κs a x y s t p q = p ∙ sym q

pub one_from_prefix : OneAnswer 1 from-prefix-kinds.ps from-prefix-kinds.r from-prefix.Post
one_from_prefix κs a x y s t p q = p ∙ sym q

pub one_from_prefix_and_subrange : OneAnswer 3 from-prefix-and-subrange-kinds.ps from-prefix-and-subrange-kinds.r from-prefix-and-subrange.Post
one_from_prefix_and_subrange κs a x y s t p q = p ∙ sym q
