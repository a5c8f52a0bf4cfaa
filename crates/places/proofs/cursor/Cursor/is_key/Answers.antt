-- The bytes that are compared are those of the key under the cursor.
use Rattle.places.proofs.MarkLaws.{key_ends, is_key}
use borrow.Author.Rules.{rules}
use Rattle.places.proofs.cursor.Cursor.is_key.Goals as goal

pub slice_bounds-equal-count : goal.slice_bounds-equal-count
slice_bounds-equal-count c = (key_ends _ _ _ c.requires c.key_past-to.ensures).0

pub slice_bounds-equal-start : goal.slice_bounds-equal-start
slice_bounds-equal-start c = let h = key_ends _ _ _ c.requires c.key_past-to.ensures in search rules

pub slice_bounds-equal-end : goal.slice_bounds-equal-end
slice_bounds-equal-end c = let h = key_ends _ _ _ c.requires c.key_past-to.ensures in search rules

pub returns : goal.returns
returns c = is_key _ _ _ _ _ c.key_past-to.ensures c.equal.ensures
