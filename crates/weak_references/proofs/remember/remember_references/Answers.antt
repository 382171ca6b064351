-- `weak_references::remember::remember_references` meets its contract: what is not refused is written.
use mathlib.Core.Path.{◌≡◌, sym, ◌∙◌}
use Rattle.refusals.proofs.Outcomes.{exit-answer}
use Rattle.weak.proofs.Refusals.{exit-above}
use Rattle.refusals.specs.Refusal.{refusal}
use Rattle.weak_references.specs.References.{remember_tests}
use Rattle.weak_references.proofs.Refusals.{ready}
use Rattle.weak_references.proofs.Equal.{remember-refused, remember-done}
use Rattle.weak_references.proofs.remember.remember_references.Goals as goal

pub returns-in_err-remember_refusal : goal.returns-in_err-remember_refusal
returns-in_err-remember_refusal c = let a = c.args in
    remember-refused a.touched.now a.ends.now a.before.now a.behind.now _ (exit-answer _ _ c.from_residual.ensures.1 ∙ c.in_err-remember_refusal.ensures) (exit-above _ _ c.from_residual.ensures.1)

pub remember-requires : goal.remember-requires
remember-requires c =
    let none-refused : let a =
    c.args in refusal (remember_tests a.touched.now a.ends.now a.before.now a.behind.now) ≡ 0 = sym c.in_ok-remember_refusal.ensures in
    let a = c.args in
    let r = ready a.touched.now a.ends.now a.before.now a.behind.now none-refused in
    record {
      before_len = (r.before, r.behind, r.points);
      ends_value = r.ends;
    }

pub returns : goal.returns
returns c =
    let none-refused : let a =
    c.args in refusal (remember_tests a.touched.now a.ends.now a.before.now a.behind.now) ≡ 0 = sym c.in_ok-remember_refusal.ensures in
    let a = c.args in
    remember-done a.touched.now a.ends.now a.before.now a.behind.now _ _ none-refused c.remember.ensures.0 c.remember.ensures.1
