-- `weak_drag::refuse::drag_refusal` meets its contract: the point is tested behind lists and ends, and in front of the numbers.
use mathlib.Core.Path.{◌≡◌, refl, sym, ◌∙◌}
use mathlib.Core.List.{List}
use Rattle.refusals.specs.Refusal.{Test, refusal, bad_index}
use Rattle.weak.specs.Weak.{list_tests, number_tests}
use Rattle.refusals.proofs.Outcomes.{exit-answer}
use Rattle.weak.proofs.Refusals.{exit-above}
use Rattle.weak.proofs.Steepness.{near-numbers}
use Rattle.weak_drag.specs.Drag.{drag_tests}
use Rattle.weak_known.proofs.Inserted.{front-refused, within-refused, behind-decides}
use Rattle.weak_drag.proofs.refuse.drag_refusal.Goals as goal

pub returns-in_err-list_refusal : goal.returns-in_err-list_refusal
returns-in_err-list_refusal c = front-refused (list_tests c.args.originals.now c.args.currents.now c.args.touched.now c.args.ends.now) (number_tests c.args.originals.now c.args.currents.now c.args.touched.now c.args.ends.now) bad_index _ refl _ (exit-answer _ _ c.from_residual.ensures.1 ∙ c.in_err-list_refusal.ensures) (exit-above _ _ c.from_residual.ensures.1)

pub returns-then-not-is_there : goal.returns-then-not-is_there
returns-then-not-is_there c =
    let lists : List Test = list_tests c.args.originals.now c.args.currents.now c.args.touched.now c.args.ends.now in
    let passed : refusal lists ≡ 0 = sym c.in_ok-list_refusal.ensures in
    sym (within-refused lists (number_tests c.args.originals.now c.args.currents.now c.args.touched.now c.args.ends.now) bad_index _ refl passed (sym c.is_there.ensures ∙ c.if-not-is_there.true))

pub returns-then-all_near : goal.returns-then-all_near
returns-then-all_near c =
    let lists : List Test = list_tests c.args.originals.now c.args.currents.now c.args.touched.now c.args.ends.now in
    let numbers : List Test = number_tests c.args.originals.now c.args.currents.now c.args.touched.now c.args.ends.now in
    let passed : refusal lists ≡ 0 = sym c.in_ok-list_refusal.ensures in
    let numbers-decide : refusal
    (drag_tests c.args.originals.now c.args.currents.now c.args.touched.now c.args.ends.now c.args.p) ≡ refusal numbers = behind-decides lists numbers bad_index _ refl passed (sym c.is_there.ensures ∙ c.if-not-is_there.false) in
    let a = c.args in
    sym (near-numbers a.originals.now a.currents.now a.touched.now a.ends.now (sym c.all_near.ensures ∙ c.if-all_near.true))
    ∙ sym numbers-decide

pub number_refusal-requires : goal.number_refusal-requires
number_refusal-requires c =
    let passed : refusal (list_tests c.args.originals.now c.args.currents.now c.args.touched.now c.args.ends.now) ≡ 0 = sym c.in_ok-list_refusal.ensures in
    passed

pub returns : goal.returns
returns c =
    let lists : List Test = list_tests c.args.originals.now c.args.currents.now c.args.touched.now c.args.ends.now in
    let numbers : List Test = number_tests c.args.originals.now c.args.currents.now c.args.touched.now c.args.ends.now in
    let passed : refusal lists ≡ 0 = sym c.in_ok-list_refusal.ensures in
    let numbers-decide : refusal
    (drag_tests c.args.originals.now c.args.currents.now c.args.touched.now c.args.ends.now c.args.p) ≡ refusal numbers = behind-decides lists numbers bad_index _ refl passed (sym c.is_there.ensures ∙ c.if-not-is_there.false) in
    c.number_refusal.ensures ∙ sym numbers-decide
