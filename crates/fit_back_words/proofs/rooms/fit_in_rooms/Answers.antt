-- `fit_back_words::rooms::fit_in_rooms` meets its contract.
use mathlib.Core.Path.{ap, ◌∙◌}
use mathlib.Core.Bool.{not}
use native.Mathlib.Omega.{arith}
use lib.ListN.{length}
use Rattle.refusals.proofs.Outcomes.{exit, number-above}
use Rattle.edge_points.specs.Steps.{points}
use Rattle.strong.proofs.Told.{told-none, told-above}
use Rattle.fit.specs.Fit.{Given, given, Fitted, fitted}
use Rattle.fit_back_words.proofs.Tests.{edges-begun}
use Rattle.fit_back_words.proofs.Rows.{edges-refuse, done, ready, points-refuse, all_done}
use Rattle.fit_back_words.proofs.rooms.fit_in_rooms.Goals as goal

pub edges_back-requires : goal.edges_back-requires
edges_back-requires c =
    let a = c.args in
    let gave : Given = given a.segments.now a.standards.now a.fonts.now a.originals.now a.weak.now a.ends.now in
    let lent : Fitted = fitted a.edges.now (points a.currents.now a.touched.now) a.told.now in
    (edges-begun a.by gave lent c.requires.accepted, c.requires.rooms.edges_long)

pub returns-in_err-done : goal.returns-in_err-done
returns-in_err-done c =
    let a = c.args in
    let gave : Given = given a.segments.now a.standards.now a.fonts.now a.originals.now a.weak.now a.ends.now in
    let lent : Fitted = fitted a.edges.now (points a.currents.now a.touched.now) a.told.now in
    rw (exit _ _ c.from_residual.ensures.1) (edges-refuse a.by gave lent c.in_err-done.ensures (number-above _))

pub points_back-moved-requires : goal.points_back-moved-requires
points_back-moved-requires c =
    let a = c.args in
    let gave : Given = given a.segments.now a.standards.now a.fonts.now a.originals.now a.weak.now a.ends.now in
    let lent : Fitted = fitted a.edges.now (points a.currents.now a.touched.now) a.told.now in
    record {
      ready = ready a.by gave lent c.in_ok-done.ensures (omega arith) c.requires.accepted;
      spare_len = (c.requires.rooms.currents_long, c.requires.rooms.marks_long);
    }

pub copy-requires : goal.copy-requires
copy-requires c = omega (arith, c.edges-1.given, ap length c.in_ok-done.ensures.kept)

pub returns-then-is_err : goal.returns-then-is_err
returns-then-is_err c =
    let a = c.args in
    let gave : Given = given a.segments.now a.standards.now a.fonts.now a.originals.now a.weak.now a.ends.now in
    let lent : Fitted = fitted a.edges.now (points a.currents.now a.touched.now) a.told.now in
    points-refuse a.by gave lent c.in_ok-done.ensures (omega arith) c.requires.accepted c.points_back-moved.ensures
    (told-above _ (c.is_err.ensures.negation ∙ ap not c.if-is_err.true)) c.copy.ensures

pub tell-requires : goal.tell-requires
tell-requires c =
    let a = c.args in
    let gave : Given = given a.segments.now a.standards.now a.fonts.now a.originals.now a.weak.now a.ends.now in
    let lent : Fitted = fitted a.edges.now (points a.currents.now a.touched.now) a.told.now in
    (c.requires.accepted.told, (done a.by gave lent c.in_ok-done.ensures (omega arith) c.requires.accepted).few)

pub returns : goal.returns
returns c =
    let a = c.args in
    let gave : Given = given a.segments.now a.standards.now a.fonts.now a.originals.now a.weak.now a.ends.now in
    let lent : Fitted = fitted a.edges.now (points a.currents.now a.touched.now) a.told.now in
    all_done a.by gave lent c.in_ok-done.ensures (omega arith) c.requires.accepted c.points_back-moved.ensures
    (told-none _ (c.is_err.ensures.negation ∙ ap not c.if-is_err.false)) c.tell.ensures
