-- `weak_references::align::align_with_references` meets its contract: what is not refused is accepted and gentle, its lists match, and so it is aligned by
-- them.
use mathlib.Core.Path.{◌≡◌, sym, ◌∙◌}
use Rattle.refusals.proofs.Outcomes.{exit-answer}
use Rattle.refusals.specs.Refusal.{refusal}
use Rattle.weak.proofs.Refusals.{accepted, accepted-gentle, exit-above}
use Rattle.weak_references.specs.References.{with_tests}
use Rattle.weak_references.proofs.Refusals.{fitting, with-accepted}
use Rattle.weak_references.proofs.Equal.{with-refused, with-done}
use Rattle.weak_references.proofs.align.align_with_references.Goals as goal

pub returns-in_err-with_refusal : goal.returns-in_err-with_refusal
returns-in_err-with_refusal c = let a = c.args in
    with-refused a.originals.now a.currents.now a.touched.now a.ends.now a.before.now a.behind.now _
    (exit-answer _ _ c.from_residual.ensures.1 ∙ c.in_err-with_refusal.ensures) (exit-above _ _ c.from_residual.ensures.1)

pub align_listed-requires : goal.align_listed-requires
align_listed-requires c =
    let none-refused : let a =
    c.args in refusal (with_tests a.originals.now a.currents.now a.touched.now a.ends.now a.before.now a.behind.now) ≡ 0 = sym c.in_ok-with_refusal.ensures in
    let a = c.args in
    let f = fitting a.originals.now a.currents.now a.touched.now a.ends.now a.before.now a.behind.now none-refused in
    let z = with-accepted a.originals.now a.currents.now a.touched.now a.ends.now a.before.now a.behind.now none-refused in
    record {
      accepted = accepted a.originals.now a.currents.now a.touched.now a.ends.now z;
      gentle_all = accepted-gentle a.originals.now a.currents.now a.touched.now a.ends.now z;
      before_len = (f.before, f.behind, f.match);
    }

pub returns : goal.returns
returns c =
    let none-refused : let a =
    c.args in refusal (with_tests a.originals.now a.currents.now a.touched.now a.ends.now a.before.now a.behind.now) ≡ 0 = sym c.in_ok-with_refusal.ensures in
    let a = c.args in
    with-done a.originals.now a.currents.now a.touched.now a.ends.now a.before.now a.behind.now _ none-refused
    c.align_listed.ensures
