-- `stems_table::pass::align_stems` meets its contract.
use mathlib.Core.Path.{◌≡◌, sym, ap, subst, ◌∙◌}
use Prim.Native.Nat.{ℕ, ◌+◌, ◌-◌, ◌<◌}
use native.Mathlib.Omega.{arith}
use Rattle.axis.specs.declared.edge.Axis.{Axis}
use Rattle.axis.specs.Edge.{edge_at, put_edge}
use Rattle.axis.specs.Limits.{most_edges}
use Rattle.axis.specs.Accepted.{AxisWithin}
use Rattle.axis.proofs.Visits.{visits-end}
use Rattle.place.specs.Steps.{InReach}
use Rattle.zones.proofs.Kept.{within_more, reach-at}
use Rattle.stems.specs.Stems.{State, outcome, stems_of}
use Rattle.stems.specs.StepsPass.{plan_at, first_put, step}
use Rattle.stems.proofs.Straight.{steps-are}
use Rattle.stems.proofs.Growth.{most_growth, Reached, PlanWithin, edge-reach}
use Rattle.stems.proofs.Kept.{grown, reached, goes-begun, anchor-or, edge_in, link-in, plan-in, first-put, second-put, read-or}
use Rattle.stems.proofs.Settling.{settled_on, link-bare}
use Rattle.stems.proofs.Turns.{step-done, step-none, step-close, step-put, plan-at, two-puts, Put}
use borrow.Author.Rules.{rules}
use Rattle.stems_table.proofs.pass.align_stems.Goals as goal

pub loop-i-init : goal.loop-i-init
loop-i-init c = let h = c.requires.axis_within in record { goes = goes-begun _ _ _ _ h.0 h.1; without = h.2 }

-- ---- edges that are done
pub loop-i-preserved-then-edge : goal.loop-i-preserved-then-edge
loop-i-preserved-then-edge c =
    let visited-in : c.loop-i.i < c.args.axis.len = c.loop-i-test.true in
    let a = c.args in
    settled_on c.loop-i.invariant visited-in (step-done a.mode a.standards.now (record { axis = c.loop-i.aligned; count = c.loop-i.serif_count; anchor = c.loop-i.anchor; trail = c.loop-i.trail }) c.loop-i.i c.if-edge.true)

pub loop-i-preserved-in_default : goal.loop-i-preserved-in_default
loop-i-preserved-in_default c =
    let visited-in : c.loop-i.i < c.args.axis.len = c.loop-i-test.true in
    let a = c.args in
    settled_on c.loop-i.invariant visited-in (step-none a.mode a.standards.now (record { axis = c.loop-i.aligned; count = c.loop-i.serif_count; anchor = c.loop-i.anchor; trail = c.loop-i.trail }) c.loop-i.i c.if-edge.false
    c.in_default.is)

pub too_close-requires : goal.too_close-requires
too_close-requires c =
    let visited-in : c.loop-i.i < c.args.axis.len = c.loop-i-test.true in
    let state : State = record { axis = c.loop-i.aligned; count = c.loop-i.serif_count; anchor = c.loop-i.anchor; trail = c.loop-i.trail } in
    let linked-in : c.in-Some.k < c.args.axis.len = link-in _ _ c.loop-i.i _ state c.loop-i.invariant.goes.sound visited-in c.in-Some.is in
    let come-to : Reached (grown c.loop-i.i) = reached _ c.loop-i.i c.loop-i.invariant.goes.few visited-in in
    let in_reach : (j : ℕ) → j < c.args.axis.len → InReach (edge_at c.loop-i.aligned j) = λ j q. edge-reach _ _ come-to (edge_in _ _ c.loop-i.i j state c.loop-i.invariant.goes.sound q) in
    (c.loop-i.invariant.goes.sound.trail_in.last, in_reach _ visited-in, in_reach _ linked-in)

pub loop-i-preserved-then-too_close : goal.loop-i-preserved-then-too_close
loop-i-preserved-then-too_close c =
    let visited-in : c.loop-i.i < c.args.axis.len = c.loop-i-test.true in
    let a = c.args in
    let close = sym c.too_close.ensures ∙ c.if-too_close.true in
    settled_on c.loop-i.invariant visited-in (step-close a.mode a.standards.now (record { axis = c.loop-i.aligned; count = c.loop-i.serif_count; anchor = c.loop-i.anchor; trail = c.loop-i.trail }) c.loop-i.i c.in-Some.k
    c.if-edge.false c.in-Some.is close)

pub plan_for-plan-requires : goal.plan_for-plan-requires
plan_for-plan-requires c =
    let visited-in : c.loop-i.i < c.args.axis.len = c.loop-i-test.true in
    let state : State = record { axis = c.loop-i.aligned; count = c.loop-i.serif_count; anchor = c.loop-i.anchor; trail = c.loop-i.trail } in
    let linked-in : c.in-Some.k < c.args.axis.len = link-in _ _ c.loop-i.i _ state c.loop-i.invariant.goes.sound visited-in c.in-Some.is in
    let base-in : c.map_or-base_ix.result < c.args.axis.len = subst (λ (j : ℕ). j < c.args.axis.len) (sym (read-or _ _ _ c.map_or-base_ix.ensures))
    (anchor-or _ c.loop-i.i c.loop-i.anchor c.loop-i.invariant.goes.sound.anchor_in visited-in) in
    let come-to : Reached (grown c.loop-i.i) = reached _ c.loop-i.i c.loop-i.invariant.goes.few visited-in in
    let in_reach : (j : ℕ) → j < c.args.axis.len → InReach (edge_at c.loop-i.aligned j) = λ j q. edge-reach _ _ come-to (edge_in _ _ c.loop-i.i j state c.loop-i.invariant.goes.sound q) in
    let bare = link-bare c.loop-i.invariant visited-in _ c.if-edge.false c.in-Some.is in
    record {
      standards_value = c.requires.standards_value;
      in_reach = (in_reach _ visited-in, in_reach _ linked-in, in_reach _ base-in, c.loop-i.invariant.goes.sound.trail_in.delta);
      bare_without = bare;
    }

-- ---- the first two stores
pub first_edge-requires : goal.first_edge-requires
first_edge-requires c =
    let visited-in : c.loop-i.i < c.args.axis.len = c.loop-i-test.true in
    let come-to : Reached (grown c.loop-i.i) = reached _ c.loop-i.i c.loop-i.invariant.goes.few visited-in in
    let state : State = record { axis = c.loop-i.aligned; count = c.loop-i.serif_count; anchor = c.loop-i.anchor; trail = c.loop-i.trail } in
    let linked-in : c.in-Some.k < c.args.axis.len = link-in _ _ c.loop-i.i _ state c.loop-i.invariant.goes.sound visited-in c.in-Some.is in
    let plan-is : c.plan_for-plan.result ≡ plan_at c.args.mode c.args.standards.now state c.loop-i.i
    c.in-Some.k = let a = c.args in
    plan-at a.mode a.standards.now state c.loop-i.i _ c.map_or-base_ix.result _ (read-or _ _ _ c.map_or-base_ix.ensures) c.plan_for-plan.ensures in
    let planned : PlanWithin (grown c.loop-i.i + most_growth) c.plan_for-plan.result = subst (PlanWithin (grown c.loop-i.i + most_growth)) (sym plan-is)
    (plan-in _ _ c.loop-i.i _ _ _ state come-to c.loop-i.invariant.goes.sound visited-in linked-in) in
    let b = come-to.most in omega (arith, planned.first, b)

pub hold-requires : goal.hold-requires
hold-requires c =
    let visited-in : c.loop-i.i < c.args.axis.len = c.loop-i-test.true in
    let state : State = record { axis = c.loop-i.aligned; count = c.loop-i.serif_count; anchor = c.loop-i.anchor; trail = c.loop-i.trail } in
    let linked-in : c.in-Some.k < c.args.axis.len = link-in _ _ c.loop-i.i _ state c.loop-i.invariant.goes.sound visited-in c.in-Some.is in
    let come-to : Reached (grown c.loop-i.i) = reached _ c.loop-i.i c.loop-i.invariant.goes.few visited-in in
    let axis2 : Axis = put_edge (put_edge c.loop-i.aligned c.loop-i.i c.first_edge.result) c.in-Some.k
    c.second_edge.result in
    let plan-is : c.plan_for-plan.result ≡ plan_at c.args.mode c.args.standards.now state c.loop-i.i
    c.in-Some.k = let a = c.args in
    plan-at a.mode a.standards.now state c.loop-i.i _ c.map_or-base_ix.result _ (read-or _ _ _ c.map_or-base_ix.ensures) c.plan_for-plan.ensures in
    let planned : PlanWithin (grown c.loop-i.i + most_growth) c.plan_for-plan.result = subst (PlanWithin (grown c.loop-i.i + most_growth)) (sym plan-is)
    (plan-in _ _ c.loop-i.i _ _ _ state come-to c.loop-i.invariant.goes.sound visited-in linked-in) in
    let within2 : AxisWithin (grown c.loop-i.i + most_growth) axis2 = let a = c.args in
    let i = c.loop-i.i in
    let plan = c.plan_for-plan.result in
    let sound = c.loop-i.invariant.goes.sound in
    let h = within_more (grown i) (grown i + most_growth) c.loop-i.aligned (omega arith) sound.axis-in in
    let h1 = first-put _ i plan c.loop-i.aligned h (omega (arith, sound.len, visited-in)) planned in
    let h2 = second-put _ c.in-Some.k plan (first_put plan i c.loop-i.aligned) h1 (omega (arith, sound.len, linked-in)) planned in
    let puts = two-puts a.mode a.standards.now state i c.in-Some.k plan _ _ c.first_edge.ensures
    c.second_edge.ensures in
    subst (AxisWithin (grown i + most_growth)) (sym puts) h2 in
    let reach2 : (j : ℕ) → j < c.args.axis.len → InReach (edge_at axis2 j) = λ j q. reach-at _ _ j axis2 within2 c.loop-i.invariant.goes.sound.len q come-to.most in
    let v = visited-in in
    (reach2 _ v, reach2 _ (omega (arith, v, c.before-in-loop-i.ensures)), reach2 _ linked-in)

pub anchor_after-anchor-requires : goal.anchor_after-anchor-requires
anchor_after-anchor-requires c =
    let visited-in : c.loop-i.i < c.args.axis.len = c.loop-i-test.true in
    let here : c.loop-i.i < most_edges = omega (arith, visited-in, c.loop-i.invariant.goes.few) in
    omega (arith, here)

pub loop-i-preserved : goal.loop-i-preserved
loop-i-preserved c =
    let state : State = record { axis = c.loop-i.aligned; count = c.loop-i.serif_count; anchor = c.loop-i.anchor; trail = c.loop-i.trail } in
    let visited-in : c.loop-i.i < c.args.axis.len = c.loop-i-test.true in
    let plan-is : c.plan_for-plan.result ≡ plan_at c.args.mode c.args.standards.now state c.loop-i.i
    c.in-Some.k = let a = c.args in
    plan-at a.mode a.standards.now state c.loop-i.i _ c.map_or-base_ix.result _ (read-or _ _ _ c.map_or-base_ix.ensures) c.plan_for-plan.ensures in
    let put-found : (Put c.args.mode c.args.standards.now state c.loop-i.i c.in-Some.k
    c.plan_for-plan.result c.first_edge.result c.second_edge.result c.hold.result c.anchor_after-anchor.result) = record {
      base = c.map_or-base_ix.result;
      prev = c.before-in-loop-i.result;
      not_done = c.if-edge.false;
      link = c.in-Some.is;
      not_close = sym c.too_close.ensures ∙ c.if-too_close.false;
      base-is = read-or _ _ _ c.map_or-base_ix.ensures;
      plan-is = c.plan_for-plan.ensures;
      first = c.first_edge.ensures;
      second = c.second_edge.ensures;
      prev-is = c.before-in-loop-i.ensures;
      third = c.hold.ensures;
      anchor = c.anchor_after-anchor.ensures;
    } in
    let a = c.args in
    settled_on c.loop-i.invariant visited-in (step-put a.mode a.standards.now state c.loop-i.i c.in-Some.k _ _ _ _ _
    put-found)

pub returns : goal.returns
unfolding stems_of
returns c = let a = c.args in
    ap outcome (sym (visits-end (step a.mode a.standards.now) _ c.loop-i.i _ c.loop-i-test.false) ∙ c.loop-i.invariant.goes.rest
    ∙ steps-are a.mode a.standards.now _ 0 _)
