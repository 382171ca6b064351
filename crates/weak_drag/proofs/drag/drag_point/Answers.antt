-- `weak_drag::drag::drag_point` meets its contract: what is not refused is accepted and gentle, its point is there, and so what depends on it is aligned.
use mathlib.Core.Path.{◌≡◌, sym, ◌∙◌}
use Rattle.refusals.proofs.Outcomes.{exit-answer}
use Rattle.refusals.specs.Refusal.{refusal}
use Rattle.weak.proofs.Refusals.{accepted, accepted-gentle, exit-above}
use Rattle.weak_drag.specs.Drag.{drag_tests}
use Rattle.weak_drag.proofs.Refusals.{drag-there, drag-accepted}
use Rattle.weak_drag.proofs.Drags.{drag-refused, drag-done}
use Rattle.weak_drag.proofs.drag.drag_point.Goals as goal

pub returns-in_err-drag_refusal : goal.returns-in_err-drag_refusal
returns-in_err-drag_refusal c = let a = c.args in
    drag-refused a.originals.now a.currents.now a.touched.now a.ends.now a.point _ (exit-answer _ _ c.from_residual.ensures.1 ∙ c.in_err-drag_refusal.ensures) (exit-above _ _ c.from_residual.ensures.1)

pub refit-requires : goal.refit-requires
refit-requires c =
    let none-refused : let a =
    c.args in refusal (drag_tests a.originals.now a.currents.now a.touched.now a.ends.now a.point) ≡ 0 = sym c.in_ok-drag_refusal.ensures in
    let a = c.args in
    let z = drag-accepted a.originals.now a.currents.now a.touched.now a.ends.now a.point none-refused in
    record {
      accepted = accepted a.originals.now a.currents.now a.touched.now a.ends.now z;
      gentle_all = accepted-gentle a.originals.now a.currents.now a.touched.now a.ends.now z;
      p_value = drag-there a.originals.now a.currents.now
          a.touched.now a.ends.now a.point none-refused;
    }

pub returns : goal.returns
returns c =
    let none-refused : let a =
    c.args in refusal (drag_tests a.originals.now a.currents.now a.touched.now a.ends.now a.point) ≡ 0 = sym c.in_ok-drag_refusal.ensures in
    let a = c.args in
    drag-done a.originals.now a.currents.now a.touched.now a.ends.now a.point _ none-refused c.refit.ensures
