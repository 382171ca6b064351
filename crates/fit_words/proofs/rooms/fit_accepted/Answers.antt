-- `fit_words::rooms::fit_accepted` meets its contract.
use native.Mathlib.Omega.{arith}
use Rattle.edge_points.specs.Steps.{points}
use Rattle.fit.specs.Fit.{Given, given, Fitted, fitted}
use Rattle.fit_back_words.proofs.Tests.{few-points}
use Rattle.fit_words.proofs.rooms.fit_accepted.Goals as goal

pub fit_in-requires : goal.fit_in-requires
fit_in-requires c =
    let s = c.is_small.ensures c.if-is_small.true in
    record { accepted = c.requires; small = (s.edges, s.points); sizes = (omega arith, omega arith) }

pub fit_in-requires-2 : goal.fit_in-requires-2
fit_in-requires-2 c =
    let a = c.args in
    let gave : Given = given a.segments.now a.standards.now a.fonts.now a.originals.now a.weak.now a.ends.now in
    let lent : Fitted = fitted a.edges.now (points a.currents.now a.touched.now) a.told.now in
    let w = c.requires.edges in
    record {
      accepted = c.requires;
      small = (omega (arith, w.few, w.long), few-points a.by gave lent c.requires);
      sizes = (omega arith, omega arith);
    }
