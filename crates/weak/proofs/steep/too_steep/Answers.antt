-- `weak::steep::too_steep` meets its contract. The invariant: the contours passed have no point that is too steep.
use native.Mathlib.Omega.{arith}
use Prim.Native.Nat.{◌+◌, ◌-◌}
use Rattle.weak.proofs.Refusals.{end-at}
use Rattle.weak.proofs.Contours.{part_length, coordinates-part}
use Rattle.weak.proofs.Steepness.{clear_none, clear-found, clear_next, clear-all}
use Rattle.weak.proofs.steep.too_steep.Goals as goal

pub loop-x-init : goal.loop-x-init
loop-x-init c = clear_none _ _ _ _ c.requires.ends

pub overflow_add-end : goal.overflow_add-end
overflow_add-end c =
    let r = end-at _ _ _ _ c.loop-x-test.true c.loop-x.invariant.ends in
    omega (arith, c.well_formed)

pub offset_bounds-originals-start : goal.offset_bounds-originals-start
offset_bounds-originals-start c =
    let r = end-at _ _ _ _ c.loop-x-test.true c.loop-x.invariant.ends in
    omega (arith, c.well_formed)

pub slice_bounds-contour_steep-count : goal.slice_bounds-contour_steep-count
slice_bounds-contour_steep-count c =
    let r = end-at _ _ _ _ c.loop-x-test.true c.loop-x.invariant.ends in
    omega (arith, c.well_formed)

pub slice_bounds-contour_steep-start : goal.slice_bounds-contour_steep-start
slice_bounds-contour_steep-start c =
    let r = end-at _ _ _ _ c.loop-x-test.true c.loop-x.invariant.ends in
    omega (arith, c.well_formed)

pub slice_bounds-contour_steep-end : goal.slice_bounds-contour_steep-end
slice_bounds-contour_steep-end c =
    let r = end-at _ _ _ _ c.loop-x-test.true c.loop-x.invariant.ends in
    omega (arith, c.well_formed)

pub offset_bounds-currents-start : goal.offset_bounds-currents-start
offset_bounds-currents-start c =
    let r = end-at _ _ _ _ c.loop-x-test.true c.loop-x.invariant.ends in
    omega (arith, c.well_formed)

pub slice_bounds-contour_steep-start-in-loop-x : goal.slice_bounds-contour_steep-start-in-loop-x
slice_bounds-contour_steep-start-in-loop-x c =
    let r = end-at _ _ _ _ c.loop-x-test.true c.loop-x.invariant.ends in
    omega (arith, c.well_formed)

pub slice_bounds-contour_steep-count-in-loop-x : goal.slice_bounds-contour_steep-count-in-loop-x
slice_bounds-contour_steep-count-in-loop-x c =
    let r = end-at _ _ _ _ c.loop-x-test.true c.loop-x.invariant.ends in
    omega (arith, c.well_formed)

pub slice_bounds-contour_steep-start-in-loop-x-2 : goal.slice_bounds-contour_steep-start-in-loop-x-2
slice_bounds-contour_steep-start-in-loop-x-2 c =
    let r = end-at _ _ _ _ c.loop-x-test.true c.loop-x.invariant.ends in
    omega (arith, c.well_formed)

pub slice_bounds-contour_steep-count-in-loop-x-2 : goal.slice_bounds-contour_steep-count-in-loop-x-2
slice_bounds-contour_steep-count-in-loop-x-2 c =
    let r = end-at _ _ _ _ c.loop-x-test.true c.loop-x.invariant.ends in
    omega (arith, c.well_formed)

pub contour_steep-requires : goal.contour_steep-requires
contour_steep-requires c =
    let l = c.loop-x in
    let n = c.from-end.result + 1 - l.start in
    record {
      currents_len = (
        part_length c.args.currents.now c.args.originals.now n l.start c.requires.currents_length,
        part_length c.args.touched.now
            c.args.originals.now n l.start c.requires.marks_length,
      );
      coordinates = (coordinates-part c.args.originals.now n l.start c.requires.originals, coordinates-part c.args.currents.now n l.start c.requires.currents);
    }

pub returns-then-contour_steep : goal.returns-then-contour_steep
returns-then-contour_steep c = let l = c.loop-x in
    let a = c.args in
    clear-found a.originals.now a.currents.now a.touched.now a.ends.now c.requires.marks_length l.x-index l.start c.from-end.result
    c.from-end.ensures
    c.loop-x-test.true l.invariant.search l.invariant.ends _ c.contour_steep.ensures c.if-contour_steep.true

pub loop-x-preserved : goal.loop-x-preserved
loop-x-preserved c = let l = c.loop-x in
    let a = c.args in
    clear_next a.originals.now a.currents.now a.touched.now a.ends.now c.requires.marks_length l.x-index l.start c.from-end.result
    c.from-end.ensures
    c.loop-x-test.true l.invariant.search l.invariant.ends _ c.contour_steep.ensures c.if-contour_steep.false l.invariant

pub returns : goal.returns
returns c = clear-all _ _ _ _ _ _ c.loop-x.invariant c.loop-x-test.false
