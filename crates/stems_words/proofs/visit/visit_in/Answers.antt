-- `stems_words::visit::visit_in` meets its contract.
use mathlib.Core.Path.{◌≡◌}
use mathlib.Core.Bool.{false}
use Prim.Native.Nat.{ℕ, ◌<◌}
use native.Mathlib.Omega.{arith}
use mir.Syntax.{w32}
use mir.Val.{to_z, of_z}
use Rattle.signed.proofs.Signed.{is, got}
use Rattle.axis.specs.declared.edge.Edge.{Edge}
use Rattle.axis.specs.Edge.{edge_at}
use Rattle.place.specs.Steps.{InReach}
use Rattle.stems.proofs.Kept.{read-or}
use Rattle.words.specs.Edge.{edges_in}
use Rattle.words_call.specs.Lent.{edges_of}
use Rattle.words_edge.specs.Whole.{reduced}
use Rattle.words_edge.proofs.Became.{below_in}
use Rattle.stems_words.proofs.Visits.{read-in, count-below, base-below, visited-done, visited-none, link-below, link-bare, visited-close, two-within, visited-stem}
use borrow.Author.Rules.{rules}
use Rattle.stems_words.proofs.visit.visit_in.Goals as goal

pub read_edge-edge-requires : goal.read_edge-edge-requires
read_edge-edge-requires c = (c.requires.ready_visit.whole, c.requires.ready_visit.below)

pub returns-then-edge : goal.returns-then-edge
returns-then-edge c = visited-done c.args.mode c.args.standards.now c.args.words.now c.args.past c.args.i c.requires.ready_visit c.read_edge-edge.ensures
    c.if-edge.true

pub one_more-requires : goal.one_more-requires
one_more-requires c = count-below c.args.words.now c.args.past c.args.i c.requires.ready_visit

pub returns-in_default : goal.returns-in_default
returns-in_default c = visited-none c.args.mode c.args.standards.now c.args.words.now c.args.past c.args.i c.requires.ready_visit c.read_edge-edge.ensures
    c.if-edge.false c.in_default.is
    c.one_more.ensures

pub read_edge-edge2-requires : goal.read_edge-edge2-requires
read_edge-edge2-requires c =
    let not_done : c.read_edge-edge.result.flags.done ≡ false = c.if-edge.false in
    let linked-in : c.in-Some.k < edges_in c.args.words.now = link-below c.args.mode c.args.standards.now c.args.words.now c.args.past c.args.i c.requires.ready_visit c.read_edge-edge.ensures c.in-Some.k
    not_done c.in-Some.is in
    (c.requires.ready_visit.whole, linked-in)

pub too_close-requires : goal.too_close-requires
too_close-requires c =
    let not_done : c.read_edge-edge.result.flags.done ≡ false = c.if-edge.false in
    let linked-in : c.in-Some.k < edges_in c.args.words.now = link-below c.args.mode c.args.standards.now c.args.words.now c.args.past c.args.i c.requires.ready_visit c.read_edge-edge.ensures c.in-Some.k
    not_done c.in-Some.is in
    let reach : (j : ℕ) (e : Edge) → j < edges_in c.args.words.now
    → e ≡ reduced (edge_at (edges_of c.args.words.now) j) → InReach e = λ j e h q. read-in c.args.words.now c.args.past c.args.i j c.requires.ready_visit h q in
    (c.requires.ready_visit.last, reach _ _ c.requires.ready_visit.below c.read_edge-edge.ensures, reach _ _ linked-in c.read_edge-edge2.ensures)

pub one_more-requires-then-too_close : goal.one_more-requires-then-too_close
one_more-requires-then-too_close c = count-below c.args.words.now c.args.past c.args.i c.requires.ready_visit

pub returns-then-too_close : goal.returns-then-too_close
returns-then-too_close c =
    let not_done : c.read_edge-edge.result.flags.done ≡ false = c.if-edge.false in
    visited-close c.args.mode c.args.standards.now c.args.words.now c.args.past c.args.i c.requires.ready_visit c.read_edge-edge.ensures c.in-Some.k
    not_done c.in-Some.is
    c.read_edge-edge2.ensures c.too_close.ensures c.if-too_close.true c.one_more-then-too_close.ensures

pub read_edge-base-requires : goal.read_edge-base-requires
read_edge-base-requires c =
    let base-in : c.map_or.result < edges_in c.args.words.now = base-below c.args.words.now c.args.past c.args.i _ c.requires.ready_visit (read-or _ _ _ c.map_or.ensures) in
    (c.requires.ready_visit.whole, base-in)

pub plan_for-plan-requires : goal.plan_for-plan-requires
plan_for-plan-requires c =
    let not_done : c.read_edge-edge.result.flags.done ≡ false = c.if-edge.false in
    let linked-in : c.in-Some.k < edges_in c.args.words.now = link-below c.args.mode c.args.standards.now c.args.words.now c.args.past c.args.i c.requires.ready_visit c.read_edge-edge.ensures c.in-Some.k
    not_done c.in-Some.is in
    let base-in : c.map_or.result < edges_in c.args.words.now = base-below c.args.words.now c.args.past c.args.i _ c.requires.ready_visit (read-or _ _ _ c.map_or.ensures) in
    let reach : (j : ℕ) (e : Edge) → j < edges_in c.args.words.now
    → e ≡ reduced (edge_at (edges_of c.args.words.now) j) → InReach e = λ j e h q. read-in c.args.words.now c.args.past c.args.i j c.requires.ready_visit h q in
    let two = c.read_edge-edge2.ensures in
    record {
      standards_value = c.requires.standards_value;
      in_reach = (reach _ _ c.requires.ready_visit.below c.read_edge-edge.ensures, reach _ _ linked-in two, reach _ _ base-in c.read_edge-base.ensures, c.requires.ready_visit.delta);
      bare_without = link-bare c.args.mode c.args.standards.now c.args.words.now c.args.past c.args.i c.requires.ready_visit c.read_edge-edge.ensures c.in-Some.k
          not_done
          c.in-Some.is two;
    }

-- ---- the stores
pub put_fixed-requires : goal.put_fixed-requires
put_fixed-requires c = (c.requires.ready_visit.whole, c.requires.ready_visit.below)

pub second_in-requires : goal.second_in-requires
second_in-requires c =
    let not_done : c.read_edge-edge.result.flags.done ≡ false = c.if-edge.false in
    let linked-in : c.in-Some.k < edges_in c.args.words.now = link-below c.args.mode c.args.standards.now c.args.words.now c.args.past c.args.i c.requires.ready_visit c.read_edge-edge.ensures c.in-Some.k
    not_done c.in-Some.is in
    (c.put_fixed.ensures.whole, below_in c.in-Some.k c.put_fixed.ensures linked-in)

pub hold_in-requires : goal.hold_in-requires
hold_in-requires c =
    let not_done : c.read_edge-edge.result.flags.done ≡ false = c.if-edge.false in
    let linked-in : c.in-Some.k < edges_in c.args.words.now = link-below c.args.mode c.args.standards.now c.args.words.now c.args.past c.args.i c.requires.ready_visit c.read_edge-edge.ensures c.in-Some.k
    not_done c.in-Some.is in
    let first_read : to_z w32 (of_z w32 c.plan_for-plan.result.first) ≡ c.plan_for-plan.result.first = is (got w32 _ c.struct_told-1.given.0.1) in
    let x = c.put_fixed.ensures in
    let y = c.second_in.ensures in (
      y.whole,
      two-within c.args.mode c.args.standards.now c.args.words.now c.args.past c.args.i c.requires.ready_visit c.read_edge-edge.ensures c.in-Some.k
          not_done c.in-Some.is
          c.read_edge-edge2.ensures c.too_close.ensures c.if-too_close.false (read-or _ _ _ c.map_or.ensures) c.read_edge-base.ensures
          c.plan_for-plan.ensures first_read x y,
      below_in c.args.i y (below_in c.args.i x c.requires.ready_visit.below),
      below_in c.in-Some.k y (below_in c.in-Some.k x linked-in),
    )

pub anchor_after-anchor-requires : goal.anchor_after-anchor-requires
anchor_after-anchor-requires c = let few = c.requires.ready_visit.whole.few in
    let here = c.requires.ready_visit.below in
    omega (arith, few, here)

pub returns : goal.returns
returns c =
    let not_done : c.read_edge-edge.result.flags.done ≡ false = c.if-edge.false in
    let first_read : to_z w32 (of_z w32 c.plan_for-plan.result.first) ≡ c.plan_for-plan.result.first = is (got w32 _ c.struct_told-1.given.0.1) in
    visited-stem c.args.mode c.args.standards.now c.args.words.now c.args.past c.args.i c.requires.ready_visit c.read_edge-edge.ensures c.in-Some.k
    not_done c.in-Some.is
    c.read_edge-edge2.ensures c.too_close.ensures c.if-too_close.false (read-or _ _ _ c.map_or.ensures) c.read_edge-base.ensures
    c.plan_for-plan.ensures first_read
    c.put_fixed.ensures c.second_in.ensures c.is_bounded.ensures c.hold_in.ensures c.anchor_after-anchor.ensures
