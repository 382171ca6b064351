-- `shown_walk::cross_outline` meets its contract. The invariant: the lines of the contours that are left are left to add.
use mathlib.Core.Bool.{true}
use Prim.Native.Nat.{◌+◌, ◌-◌}
use native.Mathlib.Omega.{arith}
use lib.ListN.{length, drop}
use Rattle.weak.proofs.Refusals.{end-at, EndAt}
use Rattle.path_trip.specs.Path.{points, Points}
use Rattle.path_trip.specs.Legs.{tour_of}
use Rattle.shown.specs.Shown.{contour_lines, lines_of}
use Rattle.shown_lines.specs.Lines.{field_half}
use Rattle.shown_lines.proofs.Winding.{owing-as, owing-more, owing-done}
use Rattle.shown_walk.proofs.Walks.{outline-turn, outline-end}
use Rattle.shown_walk.proofs.cross_outline.Goals as goal

pub cross_contour-requires-clause-within : goal.cross_contour-requires-clause-within
cross_contour-requires-clause-within c =
    let end : EndAt c.loop-end.a (length c.args.xs.now) c.args.ends.now c.loop-end.end-index = end-at _ _ _ _ c.loop-end-test.true c.loop-end.invariant.0 in
    record { some = omega (arith, end.low, c.from-e.ensures); inside = omega (arith, end.high, c.from-e.ensures) }

pub loop-end-preserved : goal.loop-end-preserved
loop-end-preserved c =
    let outline : Points = points c.args.xs.now c.args.ys.now c.args.marks.now in
    let end : EndAt c.loop-end.a (length c.args.xs.now) c.args.ends.now c.loop-end.end-index = end-at _ _ _ _ c.loop-end-test.true c.loop-end.invariant.0 in
    let h = c.loop-end-test.true in
    let r = c.from-e.result in (
      rw c.from-e.ensures end.rest,
      owing-more _ (contour_lines field_half c.args.magnify outline (tour_of outline c.loop-end.a (r + 1 - 1)))
          (lines_of field_half c.args.magnify outline (r + 1) (drop (c.loop-end.end-index + 1) c.args.ends.now)) c.cross_contour.ensures
          (owing-as _ _ (outline-turn c.args.magnify outline c.loop-end.a c.args.ends.now c.loop-end.end-index r h c.from-e.ensures) c.loop-end.invariant.1),
    )

pub returns : goal.returns
returns c = owing-done (owing-as _ _ (outline-end c.args.magnify (points c.args.xs.now c.args.ys.now c.args.marks.now) c.loop-end.a c.args.ends.now c.loop-end.end-index c.loop-end-test.false) c.loop-end.invariant.1)
