-- `weak::weak::align_contours` meets its contract. The invariant: the contours passed are aligned, and nothing behind them is written.
use native.Mathlib.Omega.{arith}
use mathlib.Core.Path.{◌∙◌}
use Prim.Native.Nat.{◌+◌, ◌-◌}
use Rattle.weak.proofs.Refusals.{end-at}
use Rattle.weak.proofs.Contours.{sofar-none, sofar-next, sofar-all, part_length, coordinates-part}
use Rattle.weak.proofs.Steepness.{own-gentle}
use Rattle.weak.proofs.weak.align_contours.Goals as goal

pub loop-x-init : goal.loop-x-init
loop-x-init c = sofar-none _ _ _ _ c.requires.accepted.ends

pub overflow_add-end : goal.overflow_add-end
overflow_add-end c =
    let r = end-at _ _ _ _ c.loop-x-test.true c.loop-x.invariant.ends in
    omega (arith, c.well_formed)

pub offset_bounds-originals-start : goal.offset_bounds-originals-start
offset_bounds-originals-start c =
    let r = end-at _ _ _ _ c.loop-x-test.true c.loop-x.invariant.ends in
    omega (arith, c.well_formed)

pub slice_bounds-align_contour-count : goal.slice_bounds-align_contour-count
slice_bounds-align_contour-count c =
    let r = end-at _ _ _ _ c.loop-x-test.true c.loop-x.invariant.ends in
    omega (arith, c.well_formed)

pub slice_bounds-align_contour-start : goal.slice_bounds-align_contour-start
slice_bounds-align_contour-start c =
    let r = end-at _ _ _ _ c.loop-x-test.true c.loop-x.invariant.ends in
    omega (arith, c.well_formed)

pub slice_bounds-align_contour-end : goal.slice_bounds-align_contour-end
slice_bounds-align_contour-end c =
    let r = end-at _ _ _ _ c.loop-x-test.true c.loop-x.invariant.ends in
    omega (arith, c.well_formed)

pub offset_bounds-currents-start : goal.offset_bounds-currents-start
offset_bounds-currents-start c =
    let r = end-at _ _ _ _ c.loop-x-test.true c.loop-x.invariant.ends in
    omega (arith, c.well_formed)

pub slice_bounds-align_contour-start-in-loop-x : goal.slice_bounds-align_contour-start-in-loop-x
slice_bounds-align_contour-start-in-loop-x c =
    let r = end-at _ _ _ _ c.loop-x-test.true c.loop-x.invariant.ends in
    omega (arith, c.well_formed)

pub slice_bounds-align_contour-count-in-loop-x : goal.slice_bounds-align_contour-count-in-loop-x
slice_bounds-align_contour-count-in-loop-x c =
    let r = end-at _ _ _ _ c.loop-x-test.true c.loop-x.invariant.ends in
    omega (arith, c.well_formed)

pub slice_bounds-align_contour-start-in-loop-x-2 : goal.slice_bounds-align_contour-start-in-loop-x-2
slice_bounds-align_contour-start-in-loop-x-2 c =
    let r = end-at _ _ _ _ c.loop-x-test.true c.loop-x.invariant.ends in
    omega (arith, c.well_formed)

pub slice_bounds-align_contour-count-in-loop-x-2 : goal.slice_bounds-align_contour-count-in-loop-x-2
slice_bounds-align_contour-count-in-loop-x-2 c =
    let r = end-at _ _ _ _ c.loop-x-test.true c.loop-x.invariant.ends in
    omega (arith, c.well_formed)

pub align_contour-requires : goal.align_contour-requires
align_contour-requires c =
    let l = c.loop-x in
    let n = c.from-end.result + 1 - l.start in
    record {
      currents_len = (
        part_length l.currents c.args.originals.now n l.start (l.invariant.len ∙ c.requires.accepted.currents_length),
        part_length c.args.touched.now c.args.originals.now
            n l.start c.requires.accepted.marks_length,
      );
      coordinates = (
        coordinates-part c.args.originals.now n l.start c.requires.accepted.originals,
        λ i. rw l.invariant.rest (coordinates-part c.args.currents.now n l.start c.requires.accepted.currents i),
        rw l.invariant.rest (own-gentle c.args.originals.now c.args.currents.now c.args.touched.now c.args.ends.now
            c.requires.accepted.marks_length l.x-index l.start c.from-end.result c.from-end.ensures c.loop-x-test.true l.invariant.search
            l.invariant.ends c.requires.gentle_all),
      );
    }

pub loop-x-preserved : goal.loop-x-preserved
loop-x-preserved c = let l = c.loop-x in
    let a = c.args in
    sofar-next a.originals.now a.currents.now a.touched.now a.ends.now c.requires.accepted.currents_length c.requires.accepted.marks_length l.x-index
    l.start c.from-end.result l.currents _
    c.from-end.ensures c.loop-x-test.true l.invariant c.align_contour.ensures

pub shape_of-currents : goal.shape_of-currents
shape_of-currents c = c.loop-x.invariant.len

pub returns : goal.returns
returns c = sofar-all _ _ _ _ _ _ _ c.loop-x.invariant c.loop-x-test.false
