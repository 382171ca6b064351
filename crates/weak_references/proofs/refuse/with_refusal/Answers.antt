-- `weak_references::refuse::with_refusal` meets its contract: the answers stand in their order.
use native.Mathlib.Omega.{arith}
use mathlib.Core.Path.{◌≡◌, sym, ◌∙◌}
use lib.ListN.{length}
use Rattle.refusals.specs.Refusal.{refusal}
use Rattle.weak.specs.Weak.{list_tests, number_tests}
use Rattle.refusals.proofs.Outcomes.{exit-answer}
use Rattle.weak.proofs.Refusals.{exit-above}
use Rattle.weak.proofs.Steepness.{near-numbers}
use Rattle.weak_references.specs.References.{with_tests}
use Rattle.weak_references.proofs.Refusals.{with-before, with-behind, with-lists, with-other, with-numbers, placed}
use Rattle.weak_references.proofs.refuse.with_refusal.Goals as goal

pub returns-then-before-originals : goal.returns-then-before-originals
returns-then-before-originals c = let a = c.args in
    sym (with-before a.originals.now a.currents.now a.touched.now a.ends.now a.before.now a.behind.now c.if-before-originals.true)

pub returns-then-behind-originals : goal.returns-then-behind-originals
returns-then-behind-originals c = let a = c.args in
    sym (with-behind a.originals.now a.currents.now a.touched.now a.ends.now a.before.now a.behind.now (omega arith) c.if-behind-originals.true)

pub returns-in_err-list_refusal : goal.returns-in_err-list_refusal
returns-in_err-list_refusal c = let a = c.args in
    with-lists a.originals.now a.currents.now a.touched.now a.ends.now a.before.now a.behind.now (omega arith) (omega arith) _
    (exit-answer _ _ c.from_residual.ensures.1 ∙ c.in_err-list_refusal.ensures) (exit-above _ _ c.from_residual.ensures.1)

pub lists_match-requires : goal.lists_match-requires
lists_match-requires c =
    let before-length : length c.args.before.now ≡ length c.args.originals.now = omega arith in
    let behind-length : length c.args.behind.now ≡ length c.args.originals.now = omega arith in
    let passed : refusal (list_tests c.args.originals.now c.args.currents.now c.args.touched.now c.args.ends.now) ≡ 0 = sym c.in_ok-list_refusal.ensures in
    let p = placed c.args.originals.now c.args.currents.now c.args.touched.now c.args.ends.now passed in
    record {
      before_len = (before-length ∙ sym p.marks, behind-length ∙ sym p.marks, p.points);
      ends_value = p.ends;
    }

pub returns-then-not-lists_match : goal.returns-then-not-lists_match
returns-then-not-lists_match c =
    let before-length : length c.args.before.now ≡ length c.args.originals.now = omega arith in
    let behind-length : length c.args.behind.now ≡ length c.args.originals.now = omega arith in
    let passed : refusal (list_tests c.args.originals.now c.args.currents.now c.args.touched.now c.args.ends.now) ≡ 0 = sym c.in_ok-list_refusal.ensures in
    let x = c.args in
    sym (with-other x.originals.now x.currents.now x.touched.now x.ends.now x.before.now x.behind.now before-length
    behind-length passed
    (sym c.lists_match.ensures ∙ c.if-not-lists_match.true))

pub returns-then-all_near : goal.returns-then-all_near
returns-then-all_near c =
    let before-length : length c.args.before.now ≡ length c.args.originals.now = omega arith in
    let behind-length : length c.args.behind.now ≡ length c.args.originals.now = omega arith in
    let passed : refusal (list_tests c.args.originals.now c.args.currents.now c.args.touched.now c.args.ends.now) ≡ 0 = sym c.in_ok-list_refusal.ensures in
    let numbers-decide : let x = c.args in
    refusal (with_tests x.originals.now x.currents.now x.touched.now x.ends.now x.before.now x.behind.now)
    ≡ refusal (number_tests x.originals.now x.currents.now x.touched.now x.ends.now) = let x = c.args in
    with-numbers x.originals.now x.currents.now x.touched.now x.ends.now x.before.now x.behind.now before-length behind-length
    passed
    (sym c.lists_match.ensures ∙ c.if-not-lists_match.false) in
    let x = c.args in
    sym (near-numbers x.originals.now x.currents.now x.touched.now x.ends.now (sym c.all_near.ensures ∙ c.if-all_near.true))
    ∙ sym numbers-decide

pub number_refusal-requires : goal.number_refusal-requires
number_refusal-requires c =
    let passed : refusal (list_tests c.args.originals.now c.args.currents.now c.args.touched.now c.args.ends.now) ≡ 0 = sym c.in_ok-list_refusal.ensures in
    passed

pub returns : goal.returns
returns c =
    let before-length : length c.args.before.now ≡ length c.args.originals.now = omega arith in
    let behind-length : length c.args.behind.now ≡ length c.args.originals.now = omega arith in
    let passed : refusal (list_tests c.args.originals.now c.args.currents.now c.args.touched.now c.args.ends.now) ≡ 0 = sym c.in_ok-list_refusal.ensures in
    let numbers-decide : let x = c.args in
    refusal (with_tests x.originals.now x.currents.now x.touched.now x.ends.now x.before.now x.behind.now)
    ≡ refusal (number_tests x.originals.now x.currents.now x.touched.now x.ends.now) = let x = c.args in
    with-numbers x.originals.now x.currents.now x.touched.now x.ends.now x.before.now x.behind.now before-length behind-length
    passed
    (sym c.lists_match.ensures ∙ c.if-not-lists_match.false) in
    c.number_refusal.ensures ∙ sym numbers-decide
