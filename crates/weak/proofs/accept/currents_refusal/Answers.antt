-- `weak::accept::currents_refusal` meets its contract: the tests that are left are those of numbers.
use borrow.Author.Rules.{rules}
use native.Mathlib.Omega.{arith}
use mathlib.Core.Path.{◌≡◌, refl, sym, ◌∙◌}
use mathlib.Core.List.{List}
use Prim.Native.Nat.{ℕ}
use Rattle.refusals.specs.Refusal.{Test, refusal}
use Rattle.refusals.proofs.Tests.{own_first, answered-yes}
use Rattle.weak.specs.Weak.{list_tests, number_tests, weak_tests}
use Rattle.weak.proofs.Refusals.{near-then}
use Rattle.weak.proofs.Steepness.{near-numbers}
use Rattle.weak.proofs.accept.currents_refusal.Goals as goal

pub returns-then-coordinates_hold : goal.returns-then-coordinates_hold
returns-then-coordinates_hold c =
    let numbers : List Test = number_tests c.args.originals.now c.args.currents.now c.args.touched.now c.args.ends.now in
    let decide : (r : ℕ) → r ≡ refusal numbers → r ≡ refusal (weak_tests c.args.originals.now c.args.currents.now c.args.touched.now c.args.ends.now) = λ r e. let a = c.args in
    answered-yes 0 _ (λ (k : ℕ). k) (refusal numbers) r (sym c.requires.0) (omega arith) e
    ∙ sym (own_first (list_tests a.originals.now a.currents.now a.touched.now a.ends.now) numbers refl) in
    let a = c.args in
    decide _
    (sym
    (near-numbers a.originals.now a.currents.now a.touched.now a.ends.now
    (sym (near-then a.originals.now a.currents.now _ c.requires.1 c.coordinates_hold.ensures) ∙ c.if-coordinates_hold.true)))

pub number_refusal-requires : goal.number_refusal-requires
number_refusal-requires c = c.requires.0

pub returns : goal.returns
returns c =
    let numbers : List Test = number_tests c.args.originals.now c.args.currents.now c.args.touched.now c.args.ends.now in
    let decide : (r : ℕ) → r ≡ refusal numbers → r ≡ refusal (weak_tests c.args.originals.now c.args.currents.now c.args.touched.now c.args.ends.now) = λ r e. let a = c.args in
    answered-yes 0 _ (λ (k : ℕ). k) (refusal numbers) r (sym c.requires.0) (omega arith) e
    ∙ sym (own_first (list_tests a.originals.now a.currents.now a.touched.now a.ends.now) numbers refl) in
    decide _ c.number_refusal.ensures
