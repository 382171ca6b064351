-- `weak::accept::number_refusal` meets its contract: the answers stand in their order.
use borrow.Author.Rules.{rules}
use borrow.Author.Tests.{not-true, not-false}
use mathlib.Core.Path.{◌≡◌, sym, ◌∙◌}
use mathlib.Core.Bool.{true, false}
use Rattle.weak_contour.specs.Limits.{most_coordinate}
use Rattle.weak.specs.Weak.{coordinates_hold}
use Rattle.weak.specs.Steps.{Accepted}
use Rattle.weak.proofs.Refusals.{accepted-front, number-originals, number-currents, number-steep}
use Rattle.weak.proofs.Reaching.{calm-reach}
use Rattle.weak.proofs.Steepness.{calm-gentle}
use Rattle.weak.proofs.accept.number_refusal.Goals as goal

pub returns-then-not-coordinates_hold : goal.returns-then-not-coordinates_hold
returns-then-not-coordinates_hold c = let a = c.args in
    sym (number-originals a.originals.now a.currents.now a.touched.now a.ends.now
    (sym c.coordinates_hold.ensures ∙ c.if-not-coordinates_hold.true))

pub returns-then-not-coordinates_hold-2 : goal.returns-then-not-coordinates_hold-2
returns-then-not-coordinates_hold-2 c =
    let originals-hold : coordinates_hold most_coordinate c.args.originals.now ≡ true = sym c.coordinates_hold.ensures ∙ c.if-not-coordinates_hold.false in
    let a = c.args in
    sym (number-currents a.originals.now a.currents.now a.touched.now a.ends.now originals-hold
    (sym c.coordinates_hold-2.ensures ∙ c.if-not-coordinates_hold-2.true))

pub returns-then-is_calm : goal.returns-then-is_calm
returns-then-is_calm c =
    let originals-hold : coordinates_hold most_coordinate c.args.originals.now ≡ true = sym c.coordinates_hold.ensures ∙ c.if-not-coordinates_hold.false in
    let currents-hold : coordinates_hold most_coordinate c.args.currents.now ≡ true = sym c.coordinates_hold-2.ensures ∙ c.if-not-coordinates_hold-2.false in
    let passed : let a = c.args in Accepted a.originals.now a.currents.now a.touched.now a.ends.now = accepted-front c.args.originals.now c.args.currents.now c.args.touched.now c.args.ends.now c.requires originals-hold
    currents-hold in
    let a = c.args in
    let calm = calm-reach a.currents.now _ _ c.reach_of.ensures (sym c.is_calm.ensures ∙ c.if-is_calm.true) in
    sym
    (number-steep a.originals.now a.currents.now a.touched.now a.ends.now false originals-hold currents-hold
    (calm-gentle a.originals.now a.currents.now a.touched.now a.ends.now passed.originals calm))

pub too_steep-requires : goal.too_steep-requires
too_steep-requires c =
    let originals-hold : coordinates_hold most_coordinate c.args.originals.now ≡ true = sym c.coordinates_hold.ensures ∙ c.if-not-coordinates_hold.false in
    let currents-hold : coordinates_hold most_coordinate c.args.currents.now ≡ true = sym c.coordinates_hold-2.ensures ∙ c.if-not-coordinates_hold-2.false in
    let passed : let a = c.args in Accepted a.originals.now a.currents.now a.touched.now a.ends.now = accepted-front c.args.originals.now c.args.currents.now c.args.touched.now c.args.ends.now c.requires originals-hold
    currents-hold in
    passed

pub returns-then-too_steep : goal.returns-then-too_steep
returns-then-too_steep c =
    let originals-hold : coordinates_hold most_coordinate c.args.originals.now ≡ true = sym c.coordinates_hold.ensures ∙ c.if-not-coordinates_hold.false in
    let currents-hold : coordinates_hold most_coordinate c.args.currents.now ≡ true = sym c.coordinates_hold-2.ensures ∙ c.if-not-coordinates_hold-2.false in
    let a = c.args in
    sym (number-steep a.originals.now a.currents.now a.touched.now a.ends.now true originals-hold currents-hold
    (sym c.if-too_steep.true ∙ c.too_steep.ensures))

pub returns : goal.returns
returns c =
    let originals-hold : coordinates_hold most_coordinate c.args.originals.now ≡ true = sym c.coordinates_hold.ensures ∙ c.if-not-coordinates_hold.false in
    let currents-hold : coordinates_hold most_coordinate c.args.currents.now ≡ true = sym c.coordinates_hold-2.ensures ∙ c.if-not-coordinates_hold-2.false in
    let a = c.args in
    sym (number-steep a.originals.now a.currents.now a.touched.now a.ends.now false originals-hold currents-hold
    (sym c.if-too_steep.false ∙ c.too_steep.ensures))
