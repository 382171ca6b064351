-- `weak::accept::weak_refusal` meets its contract: the tests of numbers stand behind those of lists and ends, and that of the originals is their first. Assumes
-- nothing.
use borrow.Author.Rules.{rules}
use borrow.Author.Tests.{not-true, not-false}
use native.Mathlib.Omega.{arith}
use mathlib.Core.Path.{◌≡◌, refl, sym, ◌∙◌}
use mathlib.Core.List.{List}
use Prim.Native.Nat.{ℕ}
use Rattle.refusals.specs.Refusal.{Test, refusal}
use Rattle.refusals.proofs.Tests.{own_first, answered-no, answered-yes}
use Rattle.refusals.proofs.Outcomes.{exit-answer, number-above}
use Rattle.weak.specs.Weak.{list_tests, number_tests}
use Rattle.weak.proofs.Refusals.{number-originals}
use Rattle.weak.proofs.accept.weak_refusal.Goals as goal

pub returns-in_err-list_refusal : goal.returns-in_err-list_refusal
returns-in_err-list_refusal c =
    let numbers : List Test = number_tests c.args.originals.now c.args.currents.now c.args.touched.now c.args.ends.now in
    exit-answer _ _ c.from_residual.ensures.1 ∙ answered-no _ _ (λ (k : ℕ). k) (refusal numbers) c.in_err-list_refusal.ensures (number-above _) ∙ sym (own_first (list_tests c.args.originals.now c.args.currents.now c.args.touched.now c.args.ends.now) numbers refl)

pub returns-then-not-coordinates_hold : goal.returns-then-not-coordinates_hold
returns-then-not-coordinates_hold c =
    let numbers : List Test = number_tests c.args.originals.now c.args.currents.now c.args.touched.now c.args.ends.now in
    let a = c.args in
    let far = number-originals a.originals.now a.currents.now a.touched.now a.ends.now
    (sym c.coordinates_hold.ensures ∙ c.if-not-coordinates_hold.true) in
    answered-yes _ _ (λ (k : ℕ). k) (refusal numbers) _ c.in_ok-list_refusal.ensures (omega arith) (sym far)
    ∙ sym (own_first (list_tests c.args.originals.now c.args.currents.now c.args.touched.now c.args.ends.now) numbers refl)

pub currents_refusal-requires : goal.currents_refusal-requires
currents_refusal-requires c = (sym c.in_ok-list_refusal.ensures, sym c.coordinates_hold.ensures ∙ c.if-not-coordinates_hold.false)

pub returns : goal.returns
returns c = c.currents_refusal.ensures
