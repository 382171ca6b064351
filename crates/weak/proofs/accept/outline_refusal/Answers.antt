-- `weak::accept::outline_refusal` meets its contract: the tests of coordinates stand behind those of lists and ends.
use mathlib.Core.Path.{refl, sym, ap, ◌∙◌}
use mathlib.Core.List.{List}
use lib.IntN.{ℤ, nat_abs}
use Prim.Native.Nat.{ℕ}
use Rattle.signed.proofs.Signed.{is}
use Rattle.refusals.specs.Refusal.{Test, refusal}
use Rattle.refusals.proofs.Tests.{own_first, answered-no, answered-yes}
use Rattle.refusals.proofs.Outcomes.{exit-answer, number-above}
use native.Mathlib.Omega.{arith}
use Rattle.weak.specs.Weak.{list_tests, range_tests}
use Rattle.weak.proofs.accept.outline_refusal.Goals as goal

pub returns-in_err-list_refusal : goal.returns-in_err-list_refusal
returns-in_err-list_refusal c =
    let ranges : List Test = range_tests (nat_abs c.args.most) c.args.originals.now c.args.currents.now in
    exit-answer _ _ c.from_residual.ensures.1 ∙ answered-no _ _ (λ (k : ℕ). k) (refusal ranges) c.in_err-list_refusal.ensures (number-above _) ∙ sym (own_first (list_tests c.args.originals.now c.args.currents.now c.args.touched.now c.args.ends.now) ranges refl)

pub returns : goal.returns
returns c =
    let ranges : List Test = range_tests (nat_abs c.args.most) c.args.originals.now c.args.currents.now in
    answered-yes _ _ (λ (k : ℕ). k) (refusal ranges) _ c.in_ok-list_refusal.ensures (omega arith)
    (c.range_refusal.ensures ∙ ap (λ (z : ℤ). refusal (range_tests (nat_abs z) c.args.originals.now c.args.currents.now)) (is c.ranges.most))
    ∙ sym (own_first (list_tests c.args.originals.now c.args.currents.now c.args.touched.now c.args.ends.now) ranges refl)
