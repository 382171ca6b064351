-- `build_table::compute::compute_edges` meets its contract: a refusal hands back what came, and an accepted call goes through the steps.
use native.Mathlib.Omega.{arith}
use mathlib.Core.Path.{◌≡◌, ap, ◌∙◌}
use mathlib.Core.Bool.{Bool}
use lib.IntN.{ℤ}
use Rattle.signed.proofs.Signed.{is}
use Rattle.refusals.specs.Refusal.{refusal}
use Rattle.refusals.proofs.Tests.{answered-no, answered-yes}
use Rattle.refusals.proofs.Outcomes.{number-above, exit}
use Rattle.build.specs.Answer.{built_of}
use Rattle.build_join.specs.declared.rules.Rules.{Rules}
use Rattle.build.specs.Building as B
use Rattle.signed.proofs.By.{by₂}
use Rattle.build.proofs.Calls.{Accepted, accepted, joinable, full-built, done-built}
use Rattle.build.proofs.Handing.{ended, few-edges, segments-are, ready}
use Rattle.build_table.proofs.compute.compute_edges.Goals as goal

pub returns-in_err-building_refusal : goal.returns-in_err-building_refusal
unfolding B.compute_edges
returns-in_err-building_refusal c =
    let refused = c.in_err-building_refusal.ensures ∙ ap (λ (z : ℤ). refusal
    (B.building_tests c.args.segments c.args.old.len c.args.top_to_bottom z c.args.thresholds)) (is c.ranges.scale) in
    ap (built_of c.args.segments c.args.old) (exit _ _ c.from_residual.ensures.1)
    ∙ answered-no _ _ (B.beside c.args.segments c.args.old) _ refused (number-above _)

pub rules_of-rules-requires : goal.rules_of-rules-requires
rules_of-rules-requires c =
    let held : 0 ≡ refusal (B.building_tests c.args.segments c.args.old.len c.args.top_to_bottom c.args.scale c.args.thresholds) =
    c.in_ok-building_refusal.ensures ∙ ap (λ (z : ℤ). refusal (B.building_tests c.args.segments c.args.old.len c.args.top_to_bottom z c.args.thresholds))
    (is c.ranges.scale) in
    let taken : Accepted c.args.segments c.args.scale c.args.thresholds = accepted _ c.args.old.len c.args.top_to_bottom _ _ 0 held (omega arith) in
    ap (λ (z : ℤ). B.numbers_hold z c.args.thresholds) (is c.ranges.scale) ∙ taken.numbers

pub join_all-joined-requires : goal.join_all-joined-requires
join_all-joined-requires c =
    let held : 0 ≡ refusal (B.building_tests c.args.segments c.args.old.len c.args.top_to_bottom c.args.scale c.args.thresholds) =
    c.in_ok-building_refusal.ensures ∙ ap (λ (z : ℤ). refusal (B.building_tests c.args.segments c.args.old.len c.args.top_to_bottom z c.args.thresholds))
    (is c.ranges.scale) in
    let taken : Accepted c.args.segments c.args.scale c.args.thresholds = accepted _ c.args.old.len c.args.top_to_bottom _ _ 0 held (omega arith) in
    let rules-are : c.rules_of-rules.result
    ≡ B.rules_of c.args.old.dim c.args.old.major_dir
    (B.is_cjk c.args.group)
    c.args.scale c.args.thresholds = let g = c.args in
    by₂ (λ (cjk : Bool) (z : ℤ). B.rules_of g.old.dim g.old.major_dir cjk z g.thresholds) c.rules_of-rules.ensures c.is_cjk-cjk.ensures
    (is c.ranges.scale) in
    let a = taken in
    (a.within, joinable _ _ _ a _ _ _ _ rules-are)

pub returns-then-joined : goal.returns-then-joined
unfolding B.compute_edges
returns-then-joined c =
    let held : 0 ≡ refusal (B.building_tests c.args.segments c.args.old.len c.args.top_to_bottom c.args.scale c.args.thresholds) =
    c.in_ok-building_refusal.ensures ∙ ap (λ (z : ℤ). refusal (B.building_tests c.args.segments c.args.old.len c.args.top_to_bottom z c.args.thresholds))
    (is c.ranges.scale) in
    let rules-are : c.rules_of-rules.result
    ≡ B.rules_of c.args.old.dim c.args.old.major_dir
    (B.is_cjk c.args.group)
    c.args.scale c.args.thresholds = let g = c.args in
    by₂ (λ (cjk : Bool) (z : ℤ). B.rules_of g.old.dim g.old.major_dir cjk z g.thresholds) c.rules_of-rules.ensures c.is_cjk-cjk.ensures
    (is c.ranges.scale) in
    let g = c.args in
    answered-yes _ _ (B.beside g.segments g.old) _ _ held (omega arith)
    (full-built g.segments g.old c.rules_of-rules.result _ c.join_all-joined.ensures c.if-joined.true
    ∙ ap (λ (r : Rules). B.built g.segments g.old r (B.last_state g.segments r)) rules-are)

pub link_segments_to_edges-linked-requires : goal.link_segments_to_edges-linked-requires
link_segments_to_edges-linked-requires c =
    let held : 0 ≡ refusal (B.building_tests c.args.segments c.args.old.len c.args.top_to_bottom c.args.scale c.args.thresholds) =
    c.in_ok-building_refusal.ensures ∙ ap (λ (z : ℤ). refusal (B.building_tests c.args.segments c.args.old.len c.args.top_to_bottom z c.args.thresholds))
    (is c.ranges.scale) in
    let taken : Accepted c.args.segments c.args.scale c.args.thresholds = accepted _ c.args.old.len c.args.top_to_bottom _ _ 0 held (omega arith) in
    let w = taken.within in
    let J = c.join_all-joined.ensures in
    (w.few, few-edges c.args.segments c.rules_of-rules.result _ J w, ended c.args.segments c.rules_of-rules.result _ J w)

pub compute_edge_properties-axis-requires : goal.compute_edge_properties-axis-requires
compute_edge_properties-axis-requires c =
    let held : 0 ≡ refusal (B.building_tests c.args.segments c.args.old.len c.args.top_to_bottom c.args.scale c.args.thresholds) =
    c.in_ok-building_refusal.ensures ∙ ap (λ (z : ℤ). refusal (B.building_tests c.args.segments c.args.old.len c.args.top_to_bottom z c.args.thresholds))
    (is c.ranges.scale) in
    let taken : Accepted c.args.segments c.args.scale c.args.thresholds = accepted _ c.args.old.len c.args.top_to_bottom _ _ 0 held (omega arith) in
    let linked-are : c.link_segments_to_edges-linked.result
    ≡ B.built_segments c.args.segments
    (B.last_state c.args.segments
    c.rules_of-rules.result) = segments-are c.args.segments c.rules_of-rules.result _ c.join_all-joined.ensures taken.within _
    c.link_segments_to_edges-linked.ensures in
    rw linked-are (ready c.args.segments c.rules_of-rules.result _ c.join_all-joined.ensures taken.within)

pub returns : goal.returns
unfolding B.compute_edges
returns c =
    let held : 0 ≡ refusal (B.building_tests c.args.segments c.args.old.len c.args.top_to_bottom c.args.scale c.args.thresholds) =
    c.in_ok-building_refusal.ensures ∙ ap (λ (z : ℤ). refusal (B.building_tests c.args.segments c.args.old.len c.args.top_to_bottom z c.args.thresholds))
    (is c.ranges.scale) in
    let rules-are : c.rules_of-rules.result
    ≡ B.rules_of c.args.old.dim c.args.old.major_dir
    (B.is_cjk c.args.group)
    c.args.scale c.args.thresholds = let g = c.args in
    by₂ (λ (cjk : Bool) (z : ℤ). B.rules_of g.old.dim g.old.major_dir cjk z g.thresholds) c.rules_of-rules.ensures c.is_cjk-cjk.ensures
    (is c.ranges.scale) in
    let taken : Accepted c.args.segments c.args.scale c.args.thresholds = accepted _ c.args.old.len c.args.top_to_bottom _ _ 0 held (omega arith) in
    let linked-are : c.link_segments_to_edges-linked.result
    ≡ B.built_segments c.args.segments
    (B.last_state c.args.segments
    c.rules_of-rules.result) = segments-are c.args.segments c.rules_of-rules.result _ c.join_all-joined.ensures taken.within _
    c.link_segments_to_edges-linked.ensures in
    let g = c.args in
    answered-yes _ _ (B.beside g.segments g.old) _ _ held (omega arith)
    (done-built g.segments g.old c.rules_of-rules.result _ c.join_all-joined.ensures c.if-joined.false _ _ linked-are
    c.compute_edge_properties-axis.ensures
    ∙ ap (λ (r : Rules). B.built g.segments g.old r (B.last_state g.segments r)) rules-are)
