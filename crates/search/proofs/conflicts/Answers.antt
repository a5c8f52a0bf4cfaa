-- In each of the three loops nothing is found yet, so the answer for all is the answer for what is left: entries, keys of an entry, marks.
use mathlib.Core.Path.{◌∙◌}
use native.Mathlib.Omega.{arith}
use borrow.Author.Rules.{rules}
use Rattle.places.proofs.MarkLaws.{key_room, key_ends}
use Rattle.places.proofs.SeekLaws.{txn_inside}
use Rattle.places.proofs.SplitLaws.{one_less}
use Rattle.search.proofs.SearchLaws.{marks_none, marks_stay, next_less, marks_hit, marks_next, keys_none, key_here, marks_start, keys_hit, keys_next, entries_start, entries_none, entry_here, entry_inside, keys_start, entries_hit, entry_early, entry_apart}
use Rattle.search.proofs.conflicts.Goals as goal
use Rattle.search.proofs.conflicts.Goals.{then-start-read_eight+else-keys-test, else-start-read_eight}

pub read_eight-start-requires : goal.read_eight-start-requires
read_eight-start-requires c = let h = txn_inside c.requires.here in omega arith

pub search-init : goal.search-init
search-init c = entries_start c.requires.rows c.requires.here

pub read_eight-requires : goal.read_eight-requires
read_eight-requires c = let h = entry_inside c.search.invariant (omega arith) in omega arith

pub overflow_add-entry : goal.overflow_add-entry
overflow_add-entry c = let h = entry_inside c.search.invariant (omega arith) in omega arith

pub of_list-keys-requires : goal.of_list-keys-requires
of_list-keys-requires c = entry_inside c.search.invariant (omega arith)

pub keys-init : goal.keys-init
keys-init c = keys_start c.search.invariant (omega arith) _ c.of_list-keys.ensures

pub key_past-to-requires : goal.key_past-to-requires
key_past-to-requires c = key_here c.keys.invariant (omega arith)

pub loop-m-init : goal.loop-m-init
loop-m-init c = marks_start c.keys.invariant (omega arith) _ c.of-marks.ensures

pub overflow_add-key : goal.overflow_add-key
overflow_add-key c = let h = key_room _ _ c.loop-m.invariant.here in omega arith

pub slice_bounds-meets-count : goal.slice_bounds-meets-count
slice_bounds-meets-count c = (key_ends _ _ _ c.loop-m.invariant.here c.key_past-to.ensures).0

pub slice_bounds-meets-start : goal.slice_bounds-meets-start
slice_bounds-meets-start c = let h = key_ends _ _ _ c.loop-m.invariant.here c.key_past-to.ensures in search rules

pub slice_bounds-meets-end : goal.slice_bounds-meets-end
slice_bounds-meets-end c = let h = key_ends _ _ _ c.loop-m.invariant.here c.key_past-to.ensures in search rules

pub meets-requires : goal.meets-requires
meets-requires c = marks_stay c.loop-m.invariant c.is_over.ensures c.loop-m-test.true

pub next-m-requires : goal.next-m-requires
next-m-requires c = marks_stay c.loop-m.invariant c.is_over.ensures c.loop-m-test.true

pub loop-m-smaller : goal.loop-m-smaller
loop-m-smaller c = next_less c.loop-m.invariant c.is_over.ensures c.loop-m-test.true _ c.next-m.ensures

pub loop-m-preserved : goal.loop-m-preserved
loop-m-preserved c = marks_next c.loop-m.invariant c.is_over.ensures c.loop-m-test.true c.key_past-to.ensures c.meets.ensures _ c.if-meets.false c.next-m.ensures

pub keys-preserved : goal.keys-preserved
keys-preserved c =
    keys_next c.keys.invariant (omega arith) _ _ _ c.loop-m.invariant.none (marks_none c.loop-m.invariant c.is_over.ensures c.loop-m-test.false) c.key_past-to.ensures (one_less _ _ _)

pub entry_past-entry-requires : goal.entry_past-entry-requires
entry_past-entry-requires c = entry_here c.search.invariant (omega arith)

pub search-preserved : goal.search-preserved
search-preserved c =
    elim c.if-start-read_eight.branch [
      | then-start-read_eight+else-keys-test w ↦
          entry_apart c.search.invariant (omega arith) _ _ _ (w.found-is ∙ w.keys.invariant.none) (keys_none w.keys.invariant (omega arith)) c.entry_past-entry.ensures (one_less _ _ _)
      | else-start-read_eight w ↦
          entry_early c.search.invariant (omega arith) c.read_eight-start.ensures c.read_eight.ensures _ _ _ w.found-is (omega (arith, w.if-start-read_eight.false)) c.entry_past-entry.ensures (one_less _ _ _)
    ]

pub returns-after-search : goal.returns-after-search
returns-after-search c = entries_none c.search.invariant (omega arith)

pub returns-then-meets : goal.returns-then-meets
returns-then-meets c =
    let tracked = marks_hit c.loop-m.invariant c.is_over.ensures c.loop-m-test.true c.key_past-to.ensures c.meets.ensures c.if-meets.true in
    entries_hit c.search.invariant (omega arith) c.read_eight-start.ensures c.read_eight.ensures c.if-start-read_eight.true (keys_hit c.keys.invariant (omega arith) tracked)
