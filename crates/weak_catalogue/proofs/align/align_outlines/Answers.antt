-- `weak_catalogue::align::align_outlines` meets its contract: every turn does the outline that comes next.
use native.Mathlib.Omega.{arith}
use mathlib.Core.Path.{refl, ◌∙◌}
use Rattle.weak_catalogue.proofs.Outlines as laws
use Rattle.weak_catalogue.proofs.align.align_outlines.Goals as goal

pub loop-j-init : goal.loop-j-init
loop-j-init c = laws.sofar-none _ _ _ _ _ _ _ c.requires

pub overflow_add-point_end : goal.overflow_add-point_end
overflow_add-point_end c = let w = laws.within _ _ _ _ _ _ _ c.requires _ _ _ _ _ c.loop-j.invariant _ _ c.from.ensures refl (omega (arith, c.loop-j.invariant.filled)) in
    omega (arith, w, c.well_formed)

pub overflow_add-contour_end : goal.overflow_add-contour_end
overflow_add-contour_end c =
    let w = laws.within _ _ _ _ _ _ _ c.requires _ _ _ _ _ c.loop-j.invariant _ _ c.from.ensures c.from-in-loop-j.ensures
    (omega (arith, c.loop-j.invariant.filled)) in
    omega (arith, w, c.well_formed)

pub offset_bounds-originals-point : goal.offset_bounds-originals-point
offset_bounds-originals-point c =
    let w = laws.within _ _ _ _ _ _ _ c.requires _ _ _ _ _ c.loop-j.invariant _ _ c.from.ensures c.from-in-loop-j.ensures
    (omega (arith, c.loop-j.invariant.filled)) in
    omega (arith, w, c.well_formed)

pub slice_bounds-align_weak_points-count : goal.slice_bounds-align_weak_points-count
slice_bounds-align_weak_points-count c =
    let w = laws.within _ _ _ _ _ _ _ c.requires _ _ _ _ _ c.loop-j.invariant _ _ c.from.ensures c.from-in-loop-j.ensures
    (omega (arith, c.loop-j.invariant.filled)) in
    omega (arith, w, c.well_formed)

pub slice_bounds-align_weak_points-start : goal.slice_bounds-align_weak_points-start
slice_bounds-align_weak_points-start c =
    let w = laws.within _ _ _ _ _ _ _ c.requires _ _ _ _ _ c.loop-j.invariant _ _ c.from.ensures c.from-in-loop-j.ensures
    (omega (arith, c.loop-j.invariant.filled)) in
    omega (arith, w, c.well_formed)

pub slice_bounds-align_weak_points-end : goal.slice_bounds-align_weak_points-end
slice_bounds-align_weak_points-end c =
    let w = laws.within _ _ _ _ _ _ _ c.requires _ _ _ _ _ c.loop-j.invariant _ _ c.from.ensures c.from-in-loop-j.ensures
    (omega (arith, c.loop-j.invariant.filled)) in
    omega (arith, w, c.well_formed)

pub offset_bounds-currents-point : goal.offset_bounds-currents-point
offset_bounds-currents-point c =
    let w = laws.within _ _ _ _ _ _ _ c.requires _ _ _ _ _ c.loop-j.invariant _ _ c.from.ensures c.from-in-loop-j.ensures
    (omega (arith, c.loop-j.invariant.filled)) in
    omega (arith, w, c.well_formed)

pub slice_bounds-align_weak_points-count-in-loop-j : goal.slice_bounds-align_weak_points-count-in-loop-j
slice_bounds-align_weak_points-count-in-loop-j c =
    let w = laws.within _ _ _ _ _ _ _ c.requires _ _ _ _ _ c.loop-j.invariant _ _ c.from.ensures c.from-in-loop-j.ensures
    (omega (arith, c.loop-j.invariant.filled)) in
    omega (arith, w, c.well_formed)

pub slice_bounds-align_weak_points-count-in-loop-j-2 : goal.slice_bounds-align_weak_points-count-in-loop-j-2
slice_bounds-align_weak_points-count-in-loop-j-2 c =
    let w = laws.within _ _ _ _ _ _ _ c.requires _ _ _ _ _ c.loop-j.invariant _ _ c.from.ensures c.from-in-loop-j.ensures
    (omega (arith, c.loop-j.invariant.filled)) in
    omega (arith, w, c.well_formed)

pub offset_bounds-ends-contour : goal.offset_bounds-ends-contour
offset_bounds-ends-contour c =
    let w = laws.within _ _ _ _ _ _ _ c.requires _ _ _ _ _ c.loop-j.invariant _ _ c.from.ensures c.from-in-loop-j.ensures
    (omega (arith, c.loop-j.invariant.filled)) in
    omega (arith, w, c.well_formed)

pub slice_bounds-align_weak_points-count-in-loop-j-3 : goal.slice_bounds-align_weak_points-count-in-loop-j-3
slice_bounds-align_weak_points-count-in-loop-j-3 c =
    let w = laws.within _ _ _ _ _ _ _ c.requires _ _ _ _ _ c.loop-j.invariant _ _ c.from.ensures c.from-in-loop-j.ensures
    (omega (arith, c.loop-j.invariant.filled)) in
    omega (arith, w, c.well_formed)

pub slice_bounds-align_weak_points-end-in-loop-j-3 : goal.slice_bounds-align_weak_points-end-in-loop-j-3
slice_bounds-align_weak_points-end-in-loop-j-3 c =
    let w = laws.within _ _ _ _ _ _ _ c.requires _ _ _ _ _ c.loop-j.invariant _ _ c.from.ensures c.from-in-loop-j.ensures
    (omega (arith, c.loop-j.invariant.filled)) in
    omega (arith, w, c.well_formed)

pub loop-j-preserved : goal.loop-j-preserved
loop-j-preserved c =
    let w = c.align_weak_points-aligned.ensures in
    laws.sofar-next _ _ _ _ _ _ _ c.requires _ _ _ _ _ c.loop-j.invariant _ _ _ _ c.from.ensures c.from-in-loop-j.ensures
    (omega (arith, c.loop-j.invariant.filled))
    (record { answer = c.answer_of.ensures ∙ w.answer; currents = w.currents })

pub shape_of-currents : goal.shape_of-currents
shape_of-currents c = c.loop-j.invariant.kept

pub shape_of-answers : goal.shape_of-answers
shape_of-answers c = c.loop-j.invariant.filled

pub returns : goal.returns
returns c = laws.sofar-all _ _ _ _ _ _ _ c.requires _ _ _ _ _ c.loop-j.invariant (omega (arith, c.loop-j.invariant.filled))
