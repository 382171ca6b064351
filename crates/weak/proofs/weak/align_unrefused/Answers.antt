-- `weak::weak::align_unrefused` meets its contract: what is not refused is accepted and gentle, and so aligned.
use mathlib.Core.Path.{◌≡◌, sym, ap, ◌∙◌}
use Rattle.refusals.specs.Refusal.{refusal}
use Rattle.refusals.specs.Outcome.{answer_of}
use Rattle.refusals.proofs.Outcomes.{exit-answer}
use Rattle.weak.specs.Weak.{weak_tests}
use Rattle.weak.proofs.Refusals.{accepted, accepted-gentle, exit-above}
use Rattle.weak.proofs.Determined.{result-refused, result-done}
use Rattle.weak.proofs.weak.align_unrefused.Goals as goal

pub returns-in_err-tested : goal.returns-in_err-tested
returns-in_err-tested c = let a = c.args in
    let e : answer_of c.from_residual.result ≡ refusal (weak_tests a.originals.now a.currents.now a.touched.now a.ends.now) = exit-answer _ _ c.from_residual.ensures.1 ∙ sym (ap answer_of c.in_err-tested.was) ∙ c.requires in
    record { answer = e; currents = result-refused a.originals.now a.currents.now a.touched.now a.ends.now _ e (exit-above _ _ c.from_residual.ensures.1) }

pub align_contours-requires : goal.align_contours-requires
align_contours-requires c = let a = c.args in
    let z : refusal (weak_tests a.originals.now a.currents.now a.touched.now a.ends.now) ≡ 0 = sym c.requires ∙ ap answer_of c.in_ok-tested.was in
    record {
      accepted = accepted a.originals.now a.currents.now a.touched.now a.ends.now z;
      gentle_all = accepted-gentle a.originals.now a.currents.now
          a.touched.now a.ends.now z;
    }

pub returns : goal.returns
returns c = let a = c.args in
    let z : refusal (weak_tests a.originals.now a.currents.now a.touched.now a.ends.now) ≡ 0 = sym c.requires ∙ ap answer_of c.in_ok-tested.was in
    record {
      answer = sym z;
      currents = result-done a.originals.now a.currents.now a.touched.now a.ends.now _ z
          c.align_contours.ensures;
    }
