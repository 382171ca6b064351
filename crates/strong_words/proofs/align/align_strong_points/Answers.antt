-- `strong_words::align::align_strong_points` meets its contract: what is not refused is written.
use native.Mathlib.Omega.{arith}
use mathlib.Core.Path.{sym, ◌∙◌}
use Rattle.refusals.proofs.Outcomes.{exit, number-above}
use Rattle.strong_words.proofs.Lending.{test-refuses, placeable, point-refuses, all-placed}
use Rattle.strong_words.proofs.align.align_strong_points.Goals as goal

pub returns-in_err-edges_test : goal.returns-in_err-edges_test
returns-in_err-edges_test c =
    let a = c.args in
    rw (exit _ _ c.from_residual.ensures.1)
    (test-refuses a.edges.now a.fonts.now a.originals.now a.currents.now a.touched.now a.weak.now c.list_refusal-own.ensures
    c.coordinates_hold-passed.ensures c.in_err-edges_test.ensures (number-above _))

pub all_placed-requires : goal.all_placed-requires
all_placed-requires c =
    let a = c.args in
    (placeable a.edges.now a.fonts.now a.originals.now a.currents.now a.touched.now a.weak.now c.list_refusal-own.ensures
    c.coordinates_hold-passed.ensures c.in_ok-edges_test.ensures (omega arith)).0

pub returns-then-not-all_placed : goal.returns-then-not-all_placed
returns-then-not-all_placed c =
    let a = c.args in
    point-refuses a.edges.now a.fonts.now a.originals.now a.currents.now a.touched.now a.weak.now c.list_refusal-own.ensures
    c.coordinates_hold-passed.ensures c.in_ok-edges_test.ensures (omega arith) c.all_placed.ensures c.if-not-all_placed.true

pub place_each-requires : goal.place_each-requires
place_each-requires c =
    let a = c.args in
    placeable a.edges.now a.fonts.now a.originals.now a.currents.now a.touched.now a.weak.now c.list_refusal-own.ensures
    c.coordinates_hold-passed.ensures c.in_ok-edges_test.ensures (omega arith)

pub returns : goal.returns
returns c =
    let a = c.args in
    all-placed a.edges.now a.fonts.now a.originals.now a.currents.now a.touched.now a.weak.now c.list_refusal-own.ensures
    c.coordinates_hold-passed.ensures c.in_ok-edges_test.ensures (omega arith) c.all_placed.ensures c.if-not-all_placed.false
    (c.place_each.ensures.placed (c.place_each.ensures.told ∙ sym c.all_placed.ensures ∙ c.if-not-all_placed.false))
