-- `zones_table::pass::align_to_zones` meets its contract.
use Rattle.std.specs.Prelude.{Some}
use mathlib.Core.Path.{◌≡◌, refl, sym, ap, ◌∙◌}
use Prim.Native.Nat.{◌+◌, ◌-◌, ◌<◌, ◌≤◌}
use native.Mathlib.Nat.{sub-zero}
use native.Mathlib.Omega.{arith}
use mir.Syntax.{w32}
use Rattle.signed.specs.Range.{Between}
use Rattle.signed.proofs.Signed.{is, fits-in}
use Rattle.axis.specs.Limits.{most_units}
use Rattle.axis.specs.Edge.{edge_at, put_edge}
use Rattle.axis.specs.Accepted.{AxisWithin}
use Rattle.axis.proofs.Visits.{visits-end}
use Rattle.place.specs.Steps.{most_width, most_reach}
use Rattle.zones.specs.Zones.{zoned_edge}
use Rattle.zones.specs.Steps.{step}
use Rattle.zones.proofs.Kept.{reach-at, read-or, link-in, choice-in, thin-put, zone-at, zone-put, link-put}
use Rattle.zones.proofs.Straight.{steps-are}
use Rattle.zones.proofs.Turns.{step-done, step-none, step-zone, Thin}
use Rattle.zones.specs.Pass.{outcome, blues_of}
use Rattle.zones.proofs.TurnsPass.{grown, goes_on, wider}
use Rattle.zones_table.proofs.pass.align_to_zones.Goals as goal

-- ---- the answers: the places of a visit are edges, and so places of the table; the axis after each store stays within its bound
pub loop-i-init : goal.loop-i-init
loop-i-init c = let h = c.requires.axis_within in record { reached = omega arith; few = h.few; count = refl; within = h; left = simp sub-zero }

pub loop-i-preserved-then-edge : goal.loop-i-preserved-then-edge
loop-i-preserved-then-edge c = goes_on c.loop-i.invariant c.loop-i-test.true c.loop-i.invariant.count (wider c.loop-i.invariant.within) (step-done _ _ c.loop-i.aligned c.loop-i.anchor c.loop-i.i c.if-edge.true)

pub loop-i-preserved-in_default : goal.loop-i-preserved-in_default
loop-i-preserved-in_default c =
    let axis1 = put_edge c.loop-i.aligned c.loop-i.i c.thin.result in
    let axis2 = put_edge axis1 c.map_or-k.result c.thin-in-loop-i.result in
    let within1 : AxisWithin (grown c.loop-i.i) axis1 = thin-put _ _ c.loop-i.i c.loop-i.aligned _ _ c.loop-i.invariant.within c.loop-i.invariant.count c.loop-i-test.true c.thin.ensures in
    let linked : c.map_or-k.result < c.args.axis.len = link-in _ _ c.loop-i.i _ c.loop-i.aligned c.loop-i.invariant.within c.loop-i.invariant.count c.loop-i-test.true (read-or _ _ _ c.map_or-k.ensures) in
    let within2 : AxisWithin (grown c.loop-i.i) axis2 = thin-put _ _ c.map_or-k.result axis1 _ _ within1 c.loop-i.invariant.count linked c.thin-in-loop-i.ensures in
    let thin : Thin c.args.rule c.args.standards.now c.loop-i.aligned c.loop-i.anchor c.loop-i.i c.map_or-k.result c.thin.result c.thin-in-loop-i.result c.zone_of-zone.result =
    record {
      own = c.loses_own-own.result;
      other = c.loses_link-other.result;
      not_done = c.if-edge.false;
      link = (read-or _ _ _ c.map_or-k.ensures);
      own_is = c.loses_own-own.ensures;
      other-is = c.loses_link-other.ensures;
      first = c.thin.ensures;
      second = c.thin-in-loop-i.ensures;
      zone = c.zone_of-zone.ensures;
    } in
    goes_on c.loop-i.invariant c.loop-i-test.true c.loop-i.invariant.count (wider within2) (step-none _ _ c.loop-i.aligned c.loop-i.anchor c.loop-i.i c.map_or-k.result _ _ _ thin c.in_default.is)

pub offset_bounds-aligned-one : goal.offset_bounds-aligned-one
offset_bounds-aligned-one c =
    let linked : c.map_or-k.result < c.args.axis.len = link-in _ _ c.loop-i.i _ c.loop-i.aligned c.loop-i.invariant.within c.loop-i.invariant.count c.loop-i-test.true (read-or _ _ _ c.map_or-k.ensures) in
    let one : c.choose-one.result < c.args.axis.len = choice-in _ c.loop-i.i c.map_or-k.result _ c.has_blue-on.result c.loop-i-test.true linked c.choose-one.ensures in
    omega (arith, c.loop-i.invariant.few)

pub bounds-aligned-one : goal.bounds-aligned-one
bounds-aligned-one c =
    let linked : c.map_or-k.result < c.args.axis.len = link-in _ _ c.loop-i.i _ c.loop-i.aligned c.loop-i.invariant.within c.loop-i.invariant.count c.loop-i-test.true (read-or _ _ _ c.map_or-k.ensures) in
    let one : c.choose-one.result < c.args.axis.len = choice-in _ c.loop-i.i c.map_or-k.result _ c.has_blue-on.result c.loop-i-test.true linked c.choose-one.ensures in
    omega (arith, c.loop-i.invariant.few)

pub offset_bounds-aligned-one-in-loop-i : goal.offset_bounds-aligned-one-in-loop-i
offset_bounds-aligned-one-in-loop-i c =
    let linked : c.map_or-k.result < c.args.axis.len = link-in _ _ c.loop-i.i _ c.loop-i.aligned c.loop-i.invariant.within c.loop-i.invariant.count c.loop-i-test.true (read-or _ _ _ c.map_or-k.ensures) in
    let one : c.choose-one.result < c.args.axis.len = choice-in _ c.loop-i.i c.map_or-k.result _ c.has_blue-on.result c.loop-i-test.true linked c.choose-one.ensures in
    omega (arith, c.loop-i.invariant.few)

pub bounds-aligned-one-in-loop-i : goal.bounds-aligned-one-in-loop-i
bounds-aligned-one-in-loop-i c =
    let linked : c.map_or-k.result < c.args.axis.len = link-in _ _ c.loop-i.i _ c.loop-i.aligned c.loop-i.invariant.within c.loop-i.invariant.count c.loop-i-test.true (read-or _ _ _ c.map_or-k.ensures) in
    let one : c.choose-one.result < c.args.axis.len = choice-in _ c.loop-i.i c.map_or-k.result _ c.has_blue-on.result c.loop-i-test.true linked c.choose-one.ensures in
    omega (arith, c.loop-i.invariant.few)

pub offset_bounds-aligned-one-in-loop-i-2 : goal.offset_bounds-aligned-one-in-loop-i-2
offset_bounds-aligned-one-in-loop-i-2 c =
    let linked : c.map_or-k.result < c.args.axis.len = link-in _ _ c.loop-i.i _ c.loop-i.aligned c.loop-i.invariant.within c.loop-i.invariant.count c.loop-i-test.true (read-or _ _ _ c.map_or-k.ensures) in
    let one : c.choose-one.result < c.args.axis.len = choice-in _ c.loop-i.i c.map_or-k.result _ c.has_blue-on.result c.loop-i-test.true linked c.choose-one.ensures in
    omega (arith, c.loop-i.invariant.few)

pub bounds-aligned-one-in-loop-i-2 : goal.bounds-aligned-one-in-loop-i-2
bounds-aligned-one-in-loop-i-2 c =
    let linked : c.map_or-k.result < c.args.axis.len = link-in _ _ c.loop-i.i _ c.loop-i.aligned c.loop-i.invariant.within c.loop-i.invariant.count c.loop-i-test.true (read-or _ _ _ c.map_or-k.ensures) in
    let one : c.choose-one.result < c.args.axis.len = choice-in _ c.loop-i.i c.map_or-k.result _ c.has_blue-on.result c.loop-i-test.true linked c.choose-one.ensures in
    omega (arith, c.loop-i.invariant.few)

pub offset_bounds-aligned-two : goal.offset_bounds-aligned-two
offset_bounds-aligned-two c =
    let linked : c.map_or-k.result < c.args.axis.len = link-in _ _ c.loop-i.i _ c.loop-i.aligned c.loop-i.invariant.within c.loop-i.invariant.count c.loop-i-test.true (read-or _ _ _ c.map_or-k.ensures) in
    let two : c.choose-two.result < c.args.axis.len = choice-in _ c.map_or-k.result c.loop-i.i _ c.has_blue-on.result linked c.loop-i-test.true c.choose-two.ensures in
    omega (arith, c.loop-i.invariant.few)

pub bounds-aligned-two : goal.bounds-aligned-two
bounds-aligned-two c =
    let linked : c.map_or-k.result < c.args.axis.len = link-in _ _ c.loop-i.i _ c.loop-i.aligned c.loop-i.invariant.within c.loop-i.invariant.count c.loop-i-test.true (read-or _ _ _ c.map_or-k.ensures) in
    let two : c.choose-two.result < c.args.axis.len = choice-in _ c.map_or-k.result c.loop-i.i _ c.has_blue-on.result linked c.loop-i-test.true c.choose-two.ensures in
    omega (arith, c.loop-i.invariant.few)

pub align_stem-requires : goal.align_stem-requires
align_stem-requires c =
    let axis1 = put_edge c.loop-i.aligned c.loop-i.i c.thin.result in
    let axis2 = put_edge axis1 c.map_or-k.result c.thin-in-loop-i.result in
    let axis3 = put_edge axis2 c.choose-one.result c.put_on_zone.result in
    let within1 : AxisWithin (grown c.loop-i.i) axis1 = thin-put _ _ c.loop-i.i c.loop-i.aligned _ _ c.loop-i.invariant.within c.loop-i.invariant.count c.loop-i-test.true c.thin.ensures in
    let linked : c.map_or-k.result < c.args.axis.len = link-in _ _ c.loop-i.i _ c.loop-i.aligned c.loop-i.invariant.within c.loop-i.invariant.count c.loop-i-test.true (read-or _ _ _ c.map_or-k.ensures) in
    let within2 : AxisWithin (grown c.loop-i.i) axis2 = thin-put _ _ c.map_or-k.result axis1 _ _ within1 c.loop-i.invariant.count linked c.thin-in-loop-i.ensures in
    let zone : Between most_units most_units c.in-Some.fitted =
    zone-at _ _ c.loop-i.i c.map_or-k.result axis2 _ _ within2 c.loop-i.invariant.count c.loop-i-test.true linked c.zone_of-zone.ensures c.in-Some.is in
    let fixed : c.put_on_zone.result ≡ zoned_edge c.loop-i.anchor (edge_at axis2 c.choose-one.result) c.in-Some.fitted =
    c.put_on_zone.ensures ∙ ap (zoned_edge c.loop-i.anchor (edge_at axis2 c.choose-one.result)) (is (fits-in w32 zone tt tt)) in
    let one : c.choose-one.result < c.args.axis.len = choice-in _ c.loop-i.i c.map_or-k.result _ c.has_blue-on.result c.loop-i-test.true linked c.choose-one.ensures in
    let within3 : AxisWithin (grown c.loop-i.i) axis3 =
    zone-put _ _ c.choose-one.result axis2 c.loop-i.anchor c.in-Some.fitted _ within2 c.loop-i.invariant.count one (omega arith) zone fixed in
    let two : c.choose-two.result < c.args.axis.len = choice-in _ c.map_or-k.result c.loop-i.i _ c.has_blue-on.result linked c.loop-i-test.true c.choose-two.ensures in
    let bound : grown c.loop-i.i ≤ most_reach = omega (arith, c.loop-i.invariant.few) in
    let near = reach-at _ _ c.choose-one.result axis3 within3 c.loop-i.invariant.count one bound in
    let far = reach-at _ _ c.choose-two.result axis3 within3 c.loop-i.invariant.count two bound in
    record {
      standards_value = c.requires.standards_value;
      in_reach = (near, far);
    }

pub offset_bounds-aligned-two-in-loop-i : goal.offset_bounds-aligned-two-in-loop-i
offset_bounds-aligned-two-in-loop-i c =
    let linked : c.map_or-k.result < c.args.axis.len = link-in _ _ c.loop-i.i _ c.loop-i.aligned c.loop-i.invariant.within c.loop-i.invariant.count c.loop-i-test.true (read-or _ _ _ c.map_or-k.ensures) in
    let two : c.choose-two.result < c.args.axis.len = choice-in _ c.map_or-k.result c.loop-i.i _ c.has_blue-on.result linked c.loop-i-test.true c.choose-two.ensures in
    omega (arith, c.loop-i.invariant.few)

pub bounds-aligned-two-in-loop-i : goal.bounds-aligned-two-in-loop-i
bounds-aligned-two-in-loop-i c =
    let linked : c.map_or-k.result < c.args.axis.len = link-in _ _ c.loop-i.i _ c.loop-i.aligned c.loop-i.invariant.within c.loop-i.invariant.count c.loop-i-test.true (read-or _ _ _ c.map_or-k.ensures) in
    let two : c.choose-two.result < c.args.axis.len = choice-in _ c.map_or-k.result c.loop-i.i _ c.has_blue-on.result linked c.loop-i-test.true c.choose-two.ensures in
    omega (arith, c.loop-i.invariant.few)

pub anchor_first-anchor-requires : goal.anchor_first-anchor-requires
anchor_first-anchor-requires c = omega (arith, c.loop-i.invariant.few)

pub loop-i-preserved : goal.loop-i-preserved
loop-i-preserved c =
    let axis1 = put_edge c.loop-i.aligned c.loop-i.i c.thin.result in
    let axis2 = put_edge axis1 c.map_or-k.result c.thin-in-loop-i.result in
    let axis3 = put_edge axis2 c.choose-one.result c.put_on_zone.result in
    let axis4 = put_edge axis3 c.choose-two.result c.align_stem.result in
    let within1 : AxisWithin (grown c.loop-i.i) axis1 = thin-put _ _ c.loop-i.i c.loop-i.aligned _ _ c.loop-i.invariant.within c.loop-i.invariant.count c.loop-i-test.true c.thin.ensures in
    let linked : c.map_or-k.result < c.args.axis.len = link-in _ _ c.loop-i.i _ c.loop-i.aligned c.loop-i.invariant.within c.loop-i.invariant.count c.loop-i-test.true (read-or _ _ _ c.map_or-k.ensures) in
    let within2 : AxisWithin (grown c.loop-i.i) axis2 = thin-put _ _ c.map_or-k.result axis1 _ _ within1 c.loop-i.invariant.count linked c.thin-in-loop-i.ensures in
    let zone : Between most_units most_units c.in-Some.fitted =
    zone-at _ _ c.loop-i.i c.map_or-k.result axis2 _ _ within2 c.loop-i.invariant.count c.loop-i-test.true linked c.zone_of-zone.ensures c.in-Some.is in
    let fixed : c.put_on_zone.result ≡ zoned_edge c.loop-i.anchor (edge_at axis2 c.choose-one.result) c.in-Some.fitted =
    c.put_on_zone.ensures ∙ ap (zoned_edge c.loop-i.anchor (edge_at axis2 c.choose-one.result)) (is (fits-in w32 zone tt tt)) in
    let one : c.choose-one.result < c.args.axis.len = choice-in _ c.loop-i.i c.map_or-k.result _ c.has_blue-on.result c.loop-i-test.true linked c.choose-one.ensures in
    let within3 : AxisWithin (grown c.loop-i.i) axis3 =
    zone-put _ _ c.choose-one.result axis2 c.loop-i.anchor c.in-Some.fitted _ within2 c.loop-i.invariant.count one (omega arith) zone fixed in
    let two : c.choose-two.result < c.args.axis.len = choice-in _ c.map_or-k.result c.loop-i.i _ c.has_blue-on.result linked c.loop-i-test.true c.choose-two.ensures in
    let within4 : AxisWithin (grown c.loop-i.i + most_width) axis4 =
    link-put _ _ c.choose-one.result c.choose-two.result axis3 c.args.rule c.args.standards.now _ within3 c.loop-i.invariant.count one two c.align_stem.ensures in
    let thin : Thin c.args.rule c.args.standards.now c.loop-i.aligned c.loop-i.anchor c.loop-i.i c.map_or-k.result c.thin.result c.thin-in-loop-i.result c.zone_of-zone.result =
    record {
      own = c.loses_own-own.result;
      other = c.loses_link-other.result;
      not_done = c.if-edge.false;
      link = (read-or _ _ _ c.map_or-k.ensures);
      own_is = c.loses_own-own.ensures;
      other-is = c.loses_link-other.ensures;
      first = c.thin.ensures;
      second = c.thin-in-loop-i.ensures;
      zone = c.zone_of-zone.ensures;
    } in
    goes_on c.loop-i.invariant c.loop-i-test.true c.loop-i.invariant.count within4
    (step-zone _ _ c.loop-i.aligned c.loop-i.anchor c.loop-i.i c.map_or-k.result _ _ _ c.in-Some.fitted c.choose-one.result c.choose-two.result _ _ _ thin c.in-Some.is (record {
      on = c.has_blue-on.result;
      on_is = c.has_blue-on.ensures;
      one_is = c.choose-one.ensures;
      two_is = c.choose-two.ensures;
      first = fixed;
      second = c.align_stem.ensures;
      anchor = c.anchor_first-anchor.ensures;
    }))

pub returns : goal.returns
unfolding blues_of
returns c =
    let l = c.loop-i in
    let s = c.args in
    ap outcome (sym (visits-end (step s.rule s.standards.now) _ l.i _ c.loop-i-test.false) ∙ l.invariant.left
    ∙ steps-are s.rule s.standards.now _ 0 _)
