-- `fit_points_words::row::then_strong` meets its contract.
use mathlib.Core.Path.{◌≡◌}
use lib.ListN.{length}
use borrow.Author.Tests.{not-true, not-false}
use Rattle.edge_points.specs.EdgePoints.{Points}
use Rattle.edge_points.specs.Steps.{points}
use Rattle.strong_words.specs.Strong.{Placeable}
use Rattle.fit_points_words.proofs.Steps.{strong-far, strong-ready, strong-steep, weak-ready, strong-goes}
use borrow.Author.Rules.{rules}
use Rattle.fit_points_words.proofs.row.then_strong.Goals as goal

pub returns-then-not-coordinates_hold : goal.returns-then-not-coordinates_hold
returns-then-not-coordinates_hold c =
    let lent : Points = points c.args.currents.now c.args.touched.now in
    let a = c.args in
    strong-far a.edges.now a.fonts.now a.originals.now a.weak.now a.ends.now lent c.requires c.coordinates_hold.ensures
    (c.if-not-coordinates_hold.true)

pub place_each-requires : goal.place_each-requires
place_each-requires c =
    let lent : Points = points c.args.currents.now c.args.touched.now in
    let ready : Placeable c.args.edges.now c.args.fonts.now c.args.originals.now c.args.touched.now c.args.weak.now × (length c.args.currents.now ≡ length c.args.fonts.now) =
    let a = c.args in
    strong-ready a.edges.now a.fonts.now a.originals.now a.weak.now a.ends.now lent c.requires in
    ready

pub returns-then-not-place_each : goal.returns-then-not-place_each
returns-then-not-place_each c =
    let lent : Points = points c.args.currents.now c.args.touched.now in
    let a = c.args in
    strong-steep a.edges.now a.fonts.now a.originals.now a.weak.now a.ends.now lent c.requires c.coordinates_hold.ensures
    c.if-not-coordinates_hold.false c.place_each.ensures
    (c.if-not-place_each.true)

pub currents_refusal-tested-requires : goal.currents_refusal-tested-requires
currents_refusal-tested-requires c =
    let lent : Points = points c.args.currents.now c.args.touched.now in
    let a = c.args in
    weak-ready a.edges.now a.fonts.now a.originals.now a.weak.now a.ends.now lent c.requires c.coordinates_hold.ensures
    (c.if-not-coordinates_hold.false) c.place_each.ensures
    c.currents-1.given c.touched-1.given

pub align_unrefused-requires : goal.align_unrefused-requires
align_unrefused-requires c = c.currents_refusal-tested.ensures

pub returns : goal.returns
returns c =
    let lent : Points = points c.args.currents.now c.args.touched.now in
    let a = c.args in
    strong-goes a.edges.now a.fonts.now a.originals.now a.weak.now a.ends.now lent c.requires c.coordinates_hold.ensures
    c.if-not-coordinates_hold.false c.place_each.ensures
    (c.if-not-place_each.false) c.align_unrefused.ensures
