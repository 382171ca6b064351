-- `fit_words::lend::lend_fit` meets its contract.
use native.Mathlib.Omega.{arith}
use Rattle.refusals.proofs.Outcomes.{exit, number-above}
use Rattle.edge_points.specs.Steps.{points}
use Rattle.fit.specs.Fit.{Given, given, Fitted, fitted}
use Rattle.fit_words.proofs.Lending.{front-refuses, shown, test-refuses, accepted, rows_fit}
use Rattle.fit_words.proofs.lend.lend_fit.Goals as goal

pub returns-in_err-fit_front : goal.returns-in_err-fit_front
returns-in_err-fit_front c =
    let a = c.args in
    let gave : Given = given a.segments.now a.standards.now a.fonts.now a.originals.now a.weak.now a.ends.now in
    let lent : Fitted = fitted a.edges.now (points a.currents.now a.touched.now) a.told.now in
    rw (exit _ _ c.from_residual.ensures.1) (front-refuses a.numbers.now gave lent c.in_err-fit_front.ensures (number-above _))

pub axis_refusal-requires : goal.axis_refusal-requires
axis_refusal-requires c =
    let a = c.args in
    let gave : Given = given a.segments.now a.standards.now a.fonts.now a.originals.now a.weak.now a.ends.now in
    let lent : Fitted = fitted a.edges.now (points a.currents.now a.touched.now) a.told.now in
    let h = shown a.numbers.now gave lent c.in_ok-fit_front.ensures (omega arith) in
    (c.tables_hold-held.ensures, h.segments, h.few)

pub returns-in_err-axis_refusal : goal.returns-in_err-axis_refusal
returns-in_err-axis_refusal c =
    let a = c.args in
    let gave : Given = given a.segments.now a.standards.now a.fonts.now a.originals.now a.weak.now a.ends.now in
    let lent : Fitted = fitted a.edges.now (points a.currents.now a.touched.now) a.told.now in
    rw (exit _ _ c.from_residual-in_err-axis_refusal.ensures.1)
    (test-refuses a.numbers.now gave lent c.in_ok-fit_front.ensures (omega arith) c.numbers_of-by.ensures c.in_err-axis_refusal.ensures (number-above _))

pub fit_accepted-requires : goal.fit_accepted-requires
fit_accepted-requires c =
    let a = c.args in
    let gave : Given = given a.segments.now a.standards.now a.fonts.now a.originals.now a.weak.now a.ends.now in
    let lent : Fitted = fitted a.edges.now (points a.currents.now a.touched.now) a.told.now in
    accepted a.numbers.now gave lent c.in_ok-fit_front.ensures (omega arith) c.numbers_of-by.ensures c.in_ok-axis_refusal.ensures (omega arith)

pub returns : goal.returns
returns c =
    let a = c.args in
    let gave : Given = given a.segments.now a.standards.now a.fonts.now a.originals.now a.weak.now a.ends.now in
    let lent : Fitted = fitted a.edges.now (points a.currents.now a.touched.now) a.told.now in
    rows_fit a.numbers.now gave lent c.in_ok-fit_front.ensures (omega arith) c.numbers_of-by.ensures c.in_ok-axis_refusal.ensures (omega arith)
    c.fit_accepted.ensures
