-- The two kinds and the two keys that are tested are those of the range under the cursor.
use native.Mathlib.Omega.{arith}
use Rattle.places.proofs.MarkLaws.{start_here, end_here, spans, in_range}
use borrow.Author.Rules.{rules}
use Rattle.places.proofs.cursor.Cursor.holds.Goals as goal

pub bound_past-middle-requires : goal.bound_past-middle-requires
bound_past-middle-requires c = start_here _ _ c.requires

pub bound_past-to-requires : goal.bound_past-to-requires
bound_past-to-requires c = end_here _ _ _ c.requires c.bound_past-middle.ensures

pub kind_at-start-requires : goal.kind_at-start-requires
kind_at-start-requires c = start_here _ _ c.requires

pub kind_at-end-requires : goal.kind_at-end-requires
kind_at-end-requires c = end_here _ _ _ c.requires c.bound_past-middle.ensures

pub overflow_add-end_key : goal.overflow_add-end_key
overflow_add-end_key c = let h = (spans _ _ _ _ c.requires c.bound_past-middle.ensures c.bound_past-to.ensures) in omega arith

pub slice_bounds-contains-count : goal.slice_bounds-contains-count
slice_bounds-contains-count c = (spans _ _ _ _ c.requires c.bound_past-middle.ensures c.bound_past-to.ensures).start

pub slice_bounds-contains-start : goal.slice_bounds-contains-start
slice_bounds-contains-start c = let h = (spans _ _ _ _ c.requires c.bound_past-middle.ensures c.bound_past-to.ensures) in search rules

pub slice_bounds-contains-end : goal.slice_bounds-contains-end
slice_bounds-contains-end c = let h = (spans _ _ _ _ c.requires c.bound_past-middle.ensures c.bound_past-to.ensures) in search rules

pub slice_bounds-contains-count-2 : goal.slice_bounds-contains-count-2
slice_bounds-contains-count-2 c = (spans _ _ _ _ c.requires c.bound_past-middle.ensures c.bound_past-to.ensures).end

pub slice_bounds-contains-start-2 : goal.slice_bounds-contains-start-2
slice_bounds-contains-start-2 c = let h = (spans _ _ _ _ c.requires c.bound_past-middle.ensures c.bound_past-to.ensures) in search rules

pub slice_bounds-contains-end-2 : goal.slice_bounds-contains-end-2
slice_bounds-contains-end-2 c = let h = (spans _ _ _ _ c.requires c.bound_past-middle.ensures c.bound_past-to.ensures) in search rules

pub returns : goal.returns
returns c = in_range _ _ _ _ _ _ _ _ _ c.bound_past-middle.ensures c.bound_past-to.ensures c.kind_at-start.ensures c.kind_at-end.ensures c.new-range.ensures c.contains.ensures
