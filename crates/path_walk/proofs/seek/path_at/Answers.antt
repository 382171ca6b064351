-- `path_walk::seek::path_at` meets its contract. The invariant: step `left` of the contours that are left is step k of the path.
use mathlib.Core.Bool.{true}
use mathlib.Core.Path.{sym, ap, ◌∙◌}
use native.Mathlib.Omega.{arith}
use lib.ListN.{length}
use Rattle.path_trip.specs.Path.{points}
use Rattle.path_walk.specs.Steps.{seek}
use Rattle.weak.proofs.Refusals.{end-at, EndAt}
use Rattle.path_walk.proofs.Seeks.{path-start, path-none, contour-here, contour-past}
use Rattle.path_walk.proofs.seek.path_at.Goals as goal

pub loop-end-init : goal.loop-end-init
loop-end-init c = (c.requires.ends_value, ap (λ p. seek p c.args.k) (path-start (points c.args.xs.now c.args.ys.now c.args.marks.now) c.args.ends.now))

pub contour_step-sought-requires-clause-within : goal.contour_step-sought-requires-clause-within
contour_step-sought-requires-clause-within c =
    let end : EndAt c.loop-end.a (length c.args.xs.now) c.args.ends.now c.loop-end.end-index = end-at _ _ _ _ c.loop-end-test.true c.loop-end.invariant.0 in
    record { some = omega (arith, end.low, c.from-e.ensures); inside = omega (arith, end.high, c.from-e.ensures) }

pub returns-in_default : goal.returns-in_default
returns-in_default c = sym (c.loop-end.invariant.1 ∙ contour-here (points c.args.xs.now c.args.ys.now c.args.marks.now) c.loop-end.a c.args.ends.now c.loop-end.end-index c.loop-end.left c.from-e.result _
    c.loop-end-test.true c.from-e.ensures c.contour_step-sought.ensures _ c.in_default.is)

pub loop-end-preserved : goal.loop-end-preserved
loop-end-preserved c =
    let end : EndAt c.loop-end.a (length c.args.xs.now) c.args.ends.now c.loop-end.end-index = end-at _ _ _ _ c.loop-end-test.true c.loop-end.invariant.0 in
    let h = c.loop-end-test.true in (
      rw c.from-e.ensures end.rest,
      c.loop-end.invariant.1
          ∙ contour-past (points c.args.xs.now c.args.ys.now c.args.marks.now) c.loop-end.a c.args.ends.now c.loop-end.end-index c.loop-end.left c.from-e.result _ h c.from-e.ensures
          c.contour_step-sought.ensures _ c.in-Err.is,
    )

pub returns : goal.returns
returns c = sym (c.loop-end.invariant.1 ∙ path-none (points c.args.xs.now c.args.ys.now c.args.marks.now) c.loop-end.a c.args.ends.now c.loop-end.end-index c.loop-end.left c.loop-end-test.false)
