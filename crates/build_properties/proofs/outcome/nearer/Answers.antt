-- `build_properties::outcome::nearer` meets its contract: by the cases of the two indices, and by the two distances.
use Rattle.std.specs.Prelude.{Some}
use borrow.Author.Rules.{rules}
use mathlib.Core.Path.{◌≡◌}
use mathlib.Core.Bool.{Bool}
use lib.IntN.{pos}
use lib.Signed.{lt_z}
use mir.Syntax.{w16, w32}
use mir.Val.{to_z, of_z}
use Rattle.signed.specs.Distance.{distance}
use Rattle.signed.proofs.Signed.{is, got}
use Rattle.build_properties.specs.Outcomes as O
use Rattle.build_properties.proofs.outcome.nearer.Goals as goal
use Rattle.build_properties.proofs.outcome.nearer.Goals.{After-struct_told-3-1, Start}

pub returns-in_default : goal.returns-in_default
unfolding O.nearer
returns-in_default c = rw c.in_default.is

pub returns-in_default-edge2_ix : goal.returns-in_default-edge2_ix
unfolding O.nearer
returns-in_default-edge2_ix c = rw (c.in-Some.is, c.in_default-edge2_ix.is)

-- the test of the two distances
abbrev first : After-struct_told-3-1 → Start
first c = c.before.before.before.before.before.before.before

tested : (c : After-struct_told-3-1) {v : Bool}
    → lt_z (to_z w32 (of_z w32 (first c).args.join.delta)) (to_z w32 (of_z w32 c.distance.result)) ≡ v
    → lt_z (first c).args.join.delta (pos (distance (first c).args.edge.fpos (first c).args.edge2.fpos)) ≡ v
tested c e =
    let distance = c.before.before in
    let told2 = distance.before in
    let told = told2.before in
    let start = first c in
    let d =
    rw
    (is (got w16 start.args.edge.fpos told.struct_told-1.given.0.1), is (got w16 start.args.edge2.fpos told2.struct_told-2-1.given.0.1))
    at distance.distance.ensures in
    rw (is (got w32 start.args.join.delta c.struct_told-3-1.given.1.1.0.1), is (got w32 distance.distance.result distance.distance.type_inv), d)
    at e

pub returns-then-join-distance : goal.returns-then-join-distance
unfolding O.nearer
returns-then-join-distance c =
    let told3 = c.before in
    let at1 = told3.before.before.before.before.before in
    rw (at1.in-Some.is, at1.in-Some-edge2_ix.is, tested told3 c.if-join-distance.true)

pub returns : goal.returns
unfolding O.nearer
returns c =
    let told3 = c.before in
    let at1 = told3.before.before.before.before.before in
    rw (at1.in-Some.is, at1.in-Some-edge2_ix.is, tested told3 c.if-join-distance.false)
