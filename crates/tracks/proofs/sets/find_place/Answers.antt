-- The key belongs behind those that have been passed.
use native.Mathlib.Omega.{arith}
use Rattle.places.proofs.SeekLaws.{is_less_lem, is_same_lem, is_more_lem}
use Rattle.tracks.proofs.PlaceLaws.{key_seek_start, key_seek_end, key_here, key_inside, key_seek_before, key_seek_there, key_seek_next}
use Rattle.tracks.proofs.sets.find_place.Goals as goal

pub loop-init : goal.loop-init
loop-init c = key_seek_start _ c.requires

pub key_past-next-requires : goal.key_past-next-requires
key_past-next-requires c = key_here _ c.loop.invariant c.loop-test.true

pub overflow_add-at : goal.overflow_add-at
overflow_add-at c = omega (arith, key_inside _ c.loop.invariant c.loop-test.true c.key_past-next.ensures)

pub slice_bounds-compare-count : goal.slice_bounds-compare-count
slice_bounds-compare-count c = omega (arith, key_inside _ c.loop.invariant c.loop-test.true c.key_past-next.ensures)

pub slice_bounds-compare-start : goal.slice_bounds-compare-start
slice_bounds-compare-start c = omega (arith, key_inside _ c.loop.invariant c.loop-test.true c.key_past-next.ensures)

pub slice_bounds-compare-end : goal.slice_bounds-compare-end
slice_bounds-compare-end c = omega (arith, key_inside _ c.loop.invariant c.loop-test.true c.key_past-next.ensures)

pub returns-then-side-lt0 : goal.returns-then-side-lt0
returns-then-side-lt0 c = key_seek_before _ c.loop.invariant c.loop-test.true c.key_past-next.ensures (is_less_lem c.compare-side.ensures c.if-side-lt0.true)

pub returns-then-side-eq0 : goal.returns-then-side-eq0
returns-then-side-eq0 c = key_seek_there _ c.loop.invariant c.loop-test.true c.key_past-next.ensures (is_same_lem c.compare-side.ensures c.if-side-eq0.true)

pub loop-preserved : goal.loop-preserved
loop-preserved c = key_seek_next _ c.loop.invariant c.loop-test.true c.key_past-next.ensures (is_more_lem c.compare-side.ensures c.if-side-lt0.false c.if-side-eq0.false)

pub returns : goal.returns
returns c = key_seek_end _ c.loop.invariant c.loop-test.false
