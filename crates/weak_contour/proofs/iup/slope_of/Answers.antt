-- `weak_contour::iup::slope_of` meets its contract: the quotient fits where the references are in their order.
use native.Mathlib.Omega.{arith}
use mathlib.Core.Path.{◌≡◌, refl, sym, ap, subst, ◌∙◌}
use Prim.Native.Nat.{◌<◌}
use lib.IntN.{ℤ, nat_abs, ◌-ℤ◌}
use mir.Syntax.{w32}
use mir.Val.{to_z, of_z, SFits}
use Rattle.signed.proofs.Signed.{signed, fits, is, got}
use Rattle.fixed.specs.Point.{div_fix}
use Rattle.signed.proofs.By.{by₂}
use Rattle.fixed.specs.Divide.{quotient_of}
use Rattle.fixed.proofs.Quotients.{told-steep, told_of}
use borrow.Author.Rules.{rules}
use Rattle.weak_contour.proofs.Spans.{slope-level, slope-upright, slope-steep, slope-is, apart, span-some}
use Rattle.weak_contour.proofs.iup.slope_of.Goals as goal

pub returns-then-u1-u2 : goal.returns-then-u1-u2
returns-then-u1-u2 c = let a = c.args in
    let f = c.ranges in
    sym (slope-level a.v1 a.u1 a.v2 a.u2 (sym (is f.u1) ∙ ap (to_z w32) c.if-u1-u2.true ∙ is f.u2))

pub returns-then-v1-v2 : goal.returns-then-v1-v2
returns-then-v1-v2 c =
    let differ : c.args.u1 ≡ c.args.u2 → ⊥ = λ e. c.if-u1-u2.false (ap (of_z w32) e) in
    let a = c.args in
    let f = c.ranges in
    sym (slope-upright a.v1 a.u1 a.v2 a.u2 differ (sym (is f.v1) ∙ ap (to_z w32) c.if-v1-v2.true ∙ is f.v2))

pub overflow_sub-u2 : goal.overflow_sub-u2
overflow_sub-u2 c = let f = c.ranges in fits (omega (arith, signed))

pub overflow_sub-v2 : goal.overflow_sub-v2
overflow_sub-v2 c = let f = c.ranges in fits (omega (arith, signed))

pub fixed_div-quotient-requires : goal.fixed_div-quotient-requires
fixed_div-quotient-requires c =
    let distinct : c.args.v1 ≡ c.args.v2 → ⊥ = λ e. c.if-v1-v2.false (ap (of_z w32) e) in
    let originals : to_z w32 (of_z w32 (to_z w32 (of_z w32 c.args.v2) -ℤ to_z w32 (of_z w32 c.args.v1)))
    ≡ c.args.v2 -ℤ c.args.v1 = by₂ ◌-ℤ◌ (is (overflow_sub-v2 c)) (is c.ranges.v2) (is c.ranges.v1) in
    let a = c.args in
    subst (λ (z : ℤ). 0 < nat_abs z) (sym originals) (span-some a.v1 a.v2 (apart a.v1 a.u1 a.v2 a.u2 c.requires.order distinct))

pub returns-in_default : goal.returns-in_default
returns-in_default c =
    let sub-u2 : SFits w32 (to_z w32 (of_z w32 c.args.u2) -ℤ to_z w32 (of_z w32 c.args.u1)) = let f = c.ranges in fits (omega (arith, signed)) in
    let sub-v2 : SFits w32 (to_z w32 (of_z w32 c.args.v2) -ℤ to_z w32 (of_z w32 c.args.v1)) = let f = c.ranges in fits (omega (arith, signed)) in
    let differ : c.args.u1 ≡ c.args.u2 → ⊥ = λ e. c.if-u1-u2.false (ap (of_z w32) e) in
    let distinct : c.args.v1 ≡ c.args.v2 → ⊥ = λ e. c.if-v1-v2.false (ap (of_z w32) e) in
    let currents : to_z w32 (of_z w32 (to_z w32 (of_z w32 c.args.u2) -ℤ to_z w32 (of_z w32 c.args.u1)))
    ≡ c.args.u2 -ℤ c.args.u1 = by₂ ◌-ℤ◌ (is sub-u2) (is c.ranges.u2) (is c.ranges.u1) in
    let originals : to_z w32 (of_z w32 (to_z w32 (of_z w32 c.args.v2) -ℤ to_z w32 (of_z w32 c.args.v1)))
    ≡ c.args.v2 -ℤ c.args.v1 = by₂ ◌-ℤ◌ (is sub-v2) (is c.ranges.v2) (is c.ranges.v1) in
    let told : c.fixed_div-quotient.result ≡ quotient_of (c.args.u2 -ℤ c.args.u1)
    (c.args.v2 -ℤ c.args.v1) = by₂ quotient_of c.fixed_div-quotient.ensures currents originals in
    let a = c.args in
    sym (slope-steep a.v1 a.u1 a.v2 a.u2 differ distinct (told-steep _ _ (sym told ∙ c.in_default.is)))

pub returns : goal.returns
returns c =
    let sub-u2 : SFits w32 (to_z w32 (of_z w32 c.args.u2) -ℤ to_z w32 (of_z w32 c.args.u1)) = let f = c.ranges in fits (omega (arith, signed)) in
    let sub-v2 : SFits w32 (to_z w32 (of_z w32 c.args.v2) -ℤ to_z w32 (of_z w32 c.args.v1)) = let f = c.ranges in fits (omega (arith, signed)) in
    let differ : c.args.u1 ≡ c.args.u2 → ⊥ = λ e. c.if-u1-u2.false (ap (of_z w32) e) in
    let distinct : c.args.v1 ≡ c.args.v2 → ⊥ = λ e. c.if-v1-v2.false (ap (of_z w32) e) in
    let currents : to_z w32 (of_z w32 (to_z w32 (of_z w32 c.args.u2) -ℤ to_z w32 (of_z w32 c.args.u1)))
    ≡ c.args.u2 -ℤ c.args.u1 = by₂ ◌-ℤ◌ (is sub-u2) (is c.ranges.u2) (is c.ranges.u1) in
    let originals : to_z w32 (of_z w32 (to_z w32 (of_z w32 c.args.v2) -ℤ to_z w32 (of_z w32 c.args.v1)))
    ≡ c.args.v2 -ℤ c.args.v1 = by₂ ◌-ℤ◌ (is sub-v2) (is c.ranges.v2) (is c.ranges.v1) in
    let told : c.fixed_div-quotient.result ≡ quotient_of (c.args.u2 -ℤ c.args.u1)
    (c.args.v2 -ℤ c.args.v1) = by₂ quotient_of c.fixed_div-quotient.ensures currents originals in
    let a = c.args in
    let z = c.in-Some.scale in
    let t = told_of (a.u2 -ℤ a.u1) (a.v2 -ℤ a.v1) z (sym told ∙ c.in-Some.is) in
    is (got w32 z c.in-Some.known_told-1-own.given.0.1) ∙ t.1 ∙ sym (slope-is a.v1 a.u1 a.v2 a.u2 differ distinct t.0)
