-- `weak_contour::steep::span_steep` meets its contract: the quotient is tested once for all points.
use borrow.Author.Rules.{rules}
use borrow.Author.Tests.{not-true, not-false}
use native.Mathlib.Omega.{arith}
use mathlib.Core.Path.{◌≡◌, sym, ap, subst, ◌∙◌}
use mathlib.Core.Bool.{true, false}
use Prim.Native.Nat.{ℕ, ◌+◌, ◌<◌}
use lib.IntN.{ℤ, nat_abs, ◌-ℤ◌}
use mir.Syntax.{w32}
use mir.Val.{SFits, to_z, of_z}
use Rattle.signed.specs.Parts.{up, dn}
use Rattle.signed.specs.Range.{Between}
use Rattle.signed.proofs.Signed.{signed, fits, is, sub-law}
use Rattle.signed.proofs.By.{by₂}
use Rattle.fixed.specs.Divide.{too_steep}
use Rattle.weak_contour.specs.Limits.{most_delta}
use Rattle.weak_contour.specs.Steps.{between_originals}
use Rattle.weak_contour.proofs.Spans.{apart, span-some}
use Rattle.weak_contour.proofs.Steepness.{missed, tells_as, level-for, gentle-for, between-for}
use Rattle.weak_contour.proofs.steep.span_steep.Goals as goal

pub returns-then-v1-v2 : goal.returns-then-v1-v2
returns-then-v1-v2 c = let a = c.args in
    let e = sym (is c.ranges.v1) ∙ ap (to_z w32) c.if-v1-v2.true ∙ is c.ranges.v2 in
    missed _ _ _ (λ i l h. level-for a.originals.now a.v1 a.u1 a.v2 a.u2 e i)

pub overflow_sub-u2 : goal.overflow_sub-u2
overflow_sub-u2 c = let f = c.ranges in let h = c.requires.ordered in fits (omega (arith, signed))

pub overflow_sub-v2 : goal.overflow_sub-v2
overflow_sub-v2 c = let f = c.ranges in let h = c.requires.ordered in fits (omega (arith, signed))

pub is_steep-requires : goal.is_steep-requires
is_steep-requires c =
    let spanned : up c.args.v1 + dn c.args.v2 < up c.args.v2 + dn c.args.v1 = let a = c.args in
    apart a.v1 a.u1 a.v2 a.u2 c.requires.ordered.order (λ e. c.if-v1-v2.false (ap (of_z w32) e)) in
    let originals : to_z w32 (of_z w32 (to_z w32 (of_z w32 c.args.v2) -ℤ to_z w32 (of_z w32 c.args.v1)))
    ≡ c.args.v2 -ℤ c.args.v1 = by₂ ◌-ℤ◌ (is (overflow_sub-v2 c)) (is c.ranges.v2) (is c.ranges.v1) in
    let a = c.args in
    let h = c.requires.ordered in
    let l = spanned in (
      subst (Between 0 most_delta) (sym originals) (omega (arith, sub-law a.v2 a.v1, h.original1, h.original2)),
      subst (λ (z : ℤ). 0 < nat_abs z) (sym originals) (span-some a.v1 a.v2 l),
    )

pub returns-then-not-is_steep : goal.returns-then-not-is_steep
returns-then-not-is_steep c =
    let sub-u2 : SFits w32 (to_z w32 (of_z w32 c.args.u2) -ℤ to_z w32 (of_z w32 c.args.u1)) = let f = c.ranges in let h = c.requires.ordered in fits (omega (arith, signed)) in
    let sub-v2 : SFits w32 (to_z w32 (of_z w32 c.args.v2) -ℤ to_z w32 (of_z w32 c.args.v1)) = let f = c.ranges in let h = c.requires.ordered in fits (omega (arith, signed)) in
    let currents : to_z w32 (of_z w32 (to_z w32 (of_z w32 c.args.u2) -ℤ to_z w32 (of_z w32 c.args.u1))) ≡ c.args.u2 -ℤ c.args.u1 = by₂ ◌-ℤ◌ (is sub-u2) (is c.ranges.u2) (is c.ranges.u1) in
    let originals : to_z w32 (of_z w32 (to_z w32 (of_z w32 c.args.v2) -ℤ to_z w32 (of_z w32 c.args.v1)))
    ≡ c.args.v2 -ℤ c.args.v1 = by₂ ◌-ℤ◌ (is sub-v2) (is c.ranges.v2) (is c.ranges.v1) in
    let told : c.is_steep.result ≡ too_steep (c.args.u2 -ℤ c.args.u1)
    (c.args.v2 -ℤ c.args.v1) = by₂ too_steep c.is_steep.ensures currents originals in
    let a = c.args in
    missed _ _ _ (λ i l h. gentle-for a.originals.now a.v1 a.u1 a.v2 a.u2 (sym told ∙ c.if-not-is_steep.true) i)

pub returns : goal.returns
returns c =
    let sub-u2 : SFits w32 (to_z w32 (of_z w32 c.args.u2) -ℤ to_z w32 (of_z w32 c.args.u1)) = let f = c.ranges in let h = c.requires.ordered in fits (omega (arith, signed)) in
    let sub-v2 : SFits w32 (to_z w32 (of_z w32 c.args.v2) -ℤ to_z w32 (of_z w32 c.args.v1)) = let f = c.ranges in let h = c.requires.ordered in fits (omega (arith, signed)) in
    let currents : to_z w32 (of_z w32 (to_z w32 (of_z w32 c.args.u2) -ℤ to_z w32 (of_z w32 c.args.u1))) ≡ c.args.u2 -ℤ c.args.u1 = by₂ ◌-ℤ◌ (is sub-u2) (is c.ranges.u2) (is c.ranges.u1) in
    let originals : to_z w32 (of_z w32 (to_z w32 (of_z w32 c.args.v2) -ℤ to_z w32 (of_z w32 c.args.v1)))
    ≡ c.args.v2 -ℤ c.args.v1 = by₂ ◌-ℤ◌ (is sub-v2) (is c.ranges.v2) (is c.ranges.v1) in
    let told : c.is_steep.result ≡ too_steep (c.args.u2 -ℤ c.args.u1)
    (c.args.v2 -ℤ c.args.v1) = by₂ too_steep c.is_steep.ensures currents originals in
    let a = c.args in
    tells_as _ _ _ _ _
    (λ i. between-for a.originals.now a.v1 a.u1 a.v2 a.u2 (sym told ∙ c.if-not-is_steep.false) i
    ∙ λ k. between_originals a.originals.now (sym (is c.ranges.v1) k) (sym (is c.ranges.v2) k) i)
    c.some_between.ensures
