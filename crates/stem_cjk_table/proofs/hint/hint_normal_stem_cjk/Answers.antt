-- `stem_cjk_table::hint::hint_normal_stem_cjk` meets its contract.
use mathlib.Core.Path.{◌≡◌, refl, sym, ap, ◌∙◌}
use mathlib.Core.List.{List}
use Prim.Native.Nat.{◌<◌}
use native.Mathlib.Omega.{arith}
use lib.IntN.{ℤ}
use mir.Syntax.{w32}
use mir.Val.{to_z, of_z}
use Rattle.signed.specs.Range.{Between}
use Rattle.signed.proofs.Signed.{is}
use Rattle.refusals.specs.Refusal.{Test, refusal}
use Rattle.refusals.proofs.Tests.{AllHold, all_hold, answered-no, answered-yes}
use Rattle.refusals.proofs.Outcomes.{number-above, exit}
use Rattle.axis.specs.Limits.{most_edges, most_passed, most_pos}
use Rattle.axis.specs.Edge.{edge_at}
use Rattle.axis.specs.Accepted.{AxisWithin}
use Rattle.axis.proofs.Acceptance.{within-between, axis-within}
use Rattle.place.specs.Steps.{InReach}
use Rattle.place.proofs.Reach.{below-first, below-second, in_table, in_reach}
use Rattle.stems_cjk.specs.Answer.{outcome_of}
use Rattle.stems_cjk.specs.declared.stem.Stem.{Stem}
use Rattle.stems_cjk.specs.Cjk.{stem_of, hinted_stem}
use Rattle.stems_cjk.proofs.Moves.{stem-pos-range, stem-width-range, stem-delta-range, move_read}
use Rattle.stems_cjk.specs.Hint.{hinted, stem_tests, hint_normal_stem_cjk}
use borrow.Author.Rules.{rules}
use Rattle.stem_cjk_table.proofs.hint.hint_normal_stem_cjk.Goals as goal

-- ---- the answers
pub returns-in_err-stem_refusal : goal.returns-in_err-stem_refusal
unfolding hint_normal_stem_cjk
returns-in_err-stem_refusal c =
    let refusal_is = c.in_err-stem_refusal.ensures
    ∙ ap (λ (d : ℤ). refusal (stem_tests c.args.axis c.args.rule c.args.standards.now c.args.edge c.args.edge2 d)) (is c.ranges.delta) in
    ap (outcome_of c.args.axis) (exit _ _ c.from_residual.ensures.1) ∙ answered-no _ _ (hinted c.args.axis _) _ refusal_is (number-above _)

pub offset_bounds-axis-edge : goal.offset_bounds-axis-edge
offset_bounds-axis-edge c =
    let tests_of : List Test = stem_tests c.args.axis c.args.rule c.args.standards.now c.args.edge c.args.edge2 c.args.delta in
    let refusal_is = c.in_ok-stem_refusal.ensures
    ∙ ap (λ (d : ℤ). refusal (stem_tests c.args.axis c.args.rule c.args.standards.now c.args.edge c.args.edge2 d)) (is c.ranges.delta) in
    let tests-hold : AllHold tests_of = all_hold tests_of refl (sym refusal_is) in
    let accepted : AxisWithin most_pos c.args.axis = let h = tests-hold in axis-within _ h.0 h.1.1.0 h.1.1.1.1.0 in
    let edge-below : c.args.edge < c.args.axis.len = below-first c.args.axis.len c.args.edge c.args.edge2 tests-hold.1.1.1.0 in
    let edge-inside : c.args.edge < most_edges = in_table _ _ _ accepted edge-below in
    let h = edge-inside in search rules

pub bounds-axis-edge : goal.bounds-axis-edge
bounds-axis-edge c =
    let tests_of : List Test = stem_tests c.args.axis c.args.rule c.args.standards.now c.args.edge c.args.edge2 c.args.delta in
    let refusal_is = c.in_ok-stem_refusal.ensures
    ∙ ap (λ (d : ℤ). refusal (stem_tests c.args.axis c.args.rule c.args.standards.now c.args.edge c.args.edge2 d)) (is c.ranges.delta) in
    let tests-hold : AllHold tests_of = all_hold tests_of refl (sym refusal_is) in
    let accepted : AxisWithin most_pos c.args.axis = let h = tests-hold in axis-within _ h.0 h.1.1.0 h.1.1.1.1.0 in
    let edge-below : c.args.edge < c.args.axis.len = below-first c.args.axis.len c.args.edge c.args.edge2 tests-hold.1.1.1.0 in
    let edge-inside : c.args.edge < most_edges = in_table _ _ _ accepted edge-below in
    edge-inside

pub offset_bounds-axis-edge2 : goal.offset_bounds-axis-edge2
offset_bounds-axis-edge2 c =
    let tests_of : List Test = stem_tests c.args.axis c.args.rule c.args.standards.now c.args.edge c.args.edge2 c.args.delta in
    let refusal_is = c.in_ok-stem_refusal.ensures
    ∙ ap (λ (d : ℤ). refusal (stem_tests c.args.axis c.args.rule c.args.standards.now c.args.edge c.args.edge2 d)) (is c.ranges.delta) in
    let tests-hold : AllHold tests_of = all_hold tests_of refl (sym refusal_is) in
    let accepted : AxisWithin most_pos c.args.axis = let h = tests-hold in axis-within _ h.0 h.1.1.0 h.1.1.1.1.0 in
    let edge2-below : c.args.edge2 < c.args.axis.len = below-second c.args.axis.len c.args.edge c.args.edge2 tests-hold.1.1.1.0 in
    let edge2-inside : c.args.edge2 < most_edges = in_table _ _ _ accepted edge2-below in
    let h = edge2-inside in search rules

pub bounds-axis-edge2 : goal.bounds-axis-edge2
bounds-axis-edge2 c =
    let tests_of : List Test = stem_tests c.args.axis c.args.rule c.args.standards.now c.args.edge c.args.edge2 c.args.delta in
    let refusal_is = c.in_ok-stem_refusal.ensures
    ∙ ap (λ (d : ℤ). refusal (stem_tests c.args.axis c.args.rule c.args.standards.now c.args.edge c.args.edge2 d)) (is c.ranges.delta) in
    let tests-hold : AllHold tests_of = all_hold tests_of refl (sym refusal_is) in
    let accepted : AxisWithin most_pos c.args.axis = let h = tests-hold in axis-within _ h.0 h.1.1.0 h.1.1.1.1.0 in
    let edge2-below : c.args.edge2 < c.args.axis.len = below-second c.args.axis.len c.args.edge c.args.edge2 tests-hold.1.1.1.0 in
    let edge2-inside : c.args.edge2 < most_edges = in_table _ _ _ accepted edge2-below in
    edge2-inside

pub stem_of-stem-requires : goal.stem_of-stem-requires
stem_of-stem-requires c =
    let tests_of : List Test = stem_tests c.args.axis c.args.rule c.args.standards.now c.args.edge c.args.edge2 c.args.delta in
    let refusal_is = c.in_ok-stem_refusal.ensures
    ∙ ap (λ (d : ℤ). refusal (stem_tests c.args.axis c.args.rule c.args.standards.now c.args.edge c.args.edge2 d)) (is c.ranges.delta) in
    let tests-hold : AllHold tests_of = all_hold tests_of refl (sym refusal_is) in
    let delta-within : Between most_passed most_passed c.args.delta = within-between most_passed _ tests-hold.1.1.1.1.1.0 in
    let accepted : AxisWithin most_pos c.args.axis = let h = tests-hold in axis-within _ h.0 h.1.1.0 h.1.1.1.1.0 in
    let edge-below : c.args.edge < c.args.axis.len = below-first c.args.axis.len c.args.edge c.args.edge2 tests-hold.1.1.1.0 in
    let edge-reach : InReach (edge_at c.args.axis c.args.edge) = in_reach _ _ _ (omega arith) accepted edge-below in
    let edge2-below : c.args.edge2 < c.args.axis.len = below-second c.args.axis.len c.args.edge c.args.edge2 tests-hold.1.1.1.0 in
    let edge2-reach : InReach (edge_at c.args.axis c.args.edge2) = in_reach _ _ _ (omega arith) accepted edge2-below in
    record {
      standards_value = tests-hold.1.0;
      in_reach = (edge-reach, edge2-reach, rw (is c.ranges.delta) delta-within);
    }

pub hint_stem-requires : goal.hint_stem-requires
hint_stem-requires c =
    let tests_of : List Test = stem_tests c.args.axis c.args.rule c.args.standards.now c.args.edge c.args.edge2 c.args.delta in
    let refusal_is = c.in_ok-stem_refusal.ensures
    ∙ ap (λ (d : ℤ). refusal (stem_tests c.args.axis c.args.rule c.args.standards.now c.args.edge c.args.edge2 d)) (is c.ranges.delta) in
    let tests-hold : AllHold tests_of = all_hold tests_of refl (sym refusal_is) in
    let accepted : AxisWithin most_pos c.args.axis = let h = tests-hold in axis-within _ h.0 h.1.1.0 h.1.1.1.1.0 in
    let edge-below : c.args.edge < c.args.axis.len = below-first c.args.axis.len c.args.edge c.args.edge2 tests-hold.1.1.1.0 in
    let edge2-below : c.args.edge2 < c.args.axis.len = below-second c.args.axis.len c.args.edge c.args.edge2 tests-hold.1.1.1.0 in
    let delta-within : Between most_passed most_passed c.args.delta = within-between most_passed _ tests-hold.1.1.1.1.1.0 in
    let edge-reach : InReach (edge_at c.args.axis c.args.edge) = in_reach _ _ _ (omega arith) accepted edge-below in
    let edge2-reach : InReach (edge_at c.args.axis c.args.edge2) = in_reach _ _ _ (omega arith) accepted edge2-below in
    let stem-is : c.stem_of-stem.result ≡ (stem_of c.args.axis.dim c.args.stem_adjust c.args.rule c.args.standards.now
    (edge_at c.args.axis c.args.edge) (edge_at c.args.axis c.args.edge2) c.args.delta) = rw (is c.ranges.delta) at c.stem_of-stem.ensures in
    let place = stem-pos-range _ _ _ _ _ _ _ edge-reach edge2-reach delta-within in
    let width = stem-width-range _ _ _ _ _ _ _ edge-reach edge2-reach in
    record {
      axis_within = (accepted, edge-below, edge2-below);
      between = rw stem-is (place, width);
    }

pub returns : goal.returns
unfolding hint_normal_stem_cjk
returns c =
    let refusal_is = c.in_ok-stem_refusal.ensures
    ∙ ap (λ (d : ℤ). refusal (stem_tests c.args.axis c.args.rule c.args.standards.now c.args.edge c.args.edge2 d)) (is c.ranges.delta) in
    let stem_by : Stem = stem_of c.args.axis.dim c.args.stem_adjust c.args.rule c.args.standards.now
    (edge_at c.args.axis c.args.edge) (edge_at c.args.axis c.args.edge2) c.args.delta in
    let stem-is : c.stem_of-stem.result ≡ stem_by = rw (is c.ranges.delta) at c.stem_of-stem.ensures in
    let moved-read : to_z w32 (of_z w32 stem_by.delta) ≡ stem_by.delta = move_read _ (stem-delta-range c.args.axis.dim c.args.stem_adjust c.args.rule c.args.standards.now _ _ c.args.delta) in
    let placed = c.hint_stem.ensures ∙ ap (λ (t : Stem). hinted_stem c.args.axis c.args.edge c.args.edge2 t) stem-is in
    let moved = ap (λ (t : Stem). to_z w32 (of_z w32 t.delta)) stem-is ∙ moved-read in
    answered-yes _ _ (hinted c.args.axis _) _ _ refusal_is (omega arith) (λ i. hinted (placed i) (moved i) 0)
