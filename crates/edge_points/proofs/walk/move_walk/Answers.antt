-- `edge_points::walk::move_walk` meets its contract: one run, or two around the contour that is found.
use borrow.Author.Rules.{rules}
use native.Mathlib.Omega.{arith}
use mathlib.Core.Path.{sym, ap, subst, ◌∙◌}
use lib.ListN.{length}
use Rattle.edge_points.specs.EdgePoints.{move_points, walked}
use Rattle.edge_points.specs.declared.contour.Stretch.{Stretch}
use Rattle.edge_points.specs.Steps.{points, contour_in, Around}
use Rattle.edge_points.proofs.Walks.{run_long, run-marks, run_room, walk-forward, walk-seam}
use Rattle.edge_points.proofs.walk.move_walk.Goals as goal

pub overflow_add-behind : goal.overflow_add-behind
overflow_add-behind c = let a = c.requires.around.0 in omega (arith, a.to_high, a.inside, a.few)

pub move_run-requires : goal.move_run-requires
move_run-requires c =
    let a = c.requires.around.0 in
    let h = c.if-first-last.true in
    record {
      from_le_to = (omega (arith, h), omega (arith, a.to_high, a.inside), c.requires.around.1);
      mover = (c.requires.mover.0, λ i l g. c.requires.mover.1 i);
    }

pub returns-then-first-last : goal.returns-then-first-last
returns-then-first-last c = walk-forward _ _ _ _ _ _ c.requires.around.0 _ c.if-first-last.true _ c.move_run.ensures

pub move_run-requires-2 : goal.move_run-requires-2
move_run-requires-2 c =
    let a : Around c.contour_of-contour.result c.args.first c.args.last (length c.args.currents.now) =
    subst (λ (x : Stretch). Around x c.args.first c.args.last (length c.args.currents.now)) (sym c.contour_of-contour.ensures) c.requires.around.0 in
    record {
      from_le_to = (omega (arith, a.from_high), a.inside, c.requires.around.1);
      mover = (c.requires.mover.0, λ i l g. c.requires.mover.1 i);
    }

pub move_run-requires-3 : goal.move_run-requires-3
move_run-requires-3 c =
    let a : Around c.contour_of-contour.result c.args.first c.args.last (length c.args.currents.now) =
    subst (λ (x : Stretch). Around x c.args.first c.args.last (length c.args.currents.now)) (sym c.contour_of-contour.ensures) c.requires.around.0 in
    let h = c.if-first-last.false in
    let e = c.move_run-2.ensures in
    let long = run_long _ _ _ _ _ _ _ _ e in
    record {
      from_le_to = (omega (arith, a.to_low), omega (arith, a.to_high, a.inside, long), run-marks _ _ _ _ _ _ _ _ e ∙ c.requires.around.1 ∙ sym long);
      mover = (c.requires.mover.0, run_room _ _ _ _ _ _ _ _ e _ _ (omega (arith, h)) c.requires.mover.1);
    }

pub returns : goal.returns
returns c =
    let a : Around c.contour_of-contour.result c.args.first c.args.last (length c.args.currents.now) =
    subst (λ (x : Stretch). Around x c.args.first c.args.last (length c.args.currents.now)) (sym c.contour_of-contour.ensures) c.requires.around.0 in
    walk-seam _ _ _ _ _ _ a _ (omega (arith, c.if-first-last.false)) _ _ c.move_run-2.ensures c.move_run-3.ensures
    ∙ ap (λ (x : Stretch). move_points c.args.snap c.args.edge (walked (contour_in x) c.args.first c.args.last) (points c.args.currents.now c.args.touched.now))
    c.contour_of-contour.ensures
