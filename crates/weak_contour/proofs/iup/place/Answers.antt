-- `weak_contour::iup::place` meets its contract: each sum fits, and so does the product, as the arithmetic's law says.
use native.Mathlib.Omega.{arith}
use mathlib.Core.Path.{◌≡◌, refl, sym, ap, subst, ◌∙◌}
use mathlib.Core.Bool.{false}
use Prim.Native.Nat.{◌+◌, ◌<◌}
use lib.IntN.{ℤ, ◌+ℤ◌, ◌-ℤ◌}
use mir.Syntax.{w32}
use mir.Val.{to_z, of_z, SFits}
use Rattle.signed.specs.Parts.{up, dn}
use Rattle.signed.proofs.Signed.{signed, fits, is, got, fits-in, sub-law, one-zero, ◌also◌}
use Rattle.fixed.specs.Point.{mul_fix, div_fix}
use Rattle.fixed.specs.Divide.{too_steep}
use Rattle.fixed.proofs.Interpolation.{AlongLine, Fitting}
use Rattle.signed.proofs.By.{by₂}
use Rattle.weak_contour.proofs.Spans.{slope-is, interpolated-low, interpolated-high, interpolated-level, interpolated-between, along-law, fitting-law, gentle-law}
use Rattle.weak_contour.proofs.iup.place.Goals as goal

-- each number of the span fits
pub record Whole (v1 u1 v2 u2 : ℤ) : Type 0 where
  pub w1 : SFits w32 v1
  pub x1 : SFits w32 u1
  pub w2 : SFits w32 v2
  pub x2 : SFits w32 u2

pub overflow_sub-result : goal.overflow_sub-result
overflow_sub-result c =
    let whole : Whole c.args.span.v1 c.args.span.u1 c.args.span.v2 c.args.span.u2 = let h = c.requires.span_holds.0.ordered in
    record {
      w1 = fits-in w32 h.original1 tt tt;
      x1 = fits-in w32 h.current1 tt tt;
      w2 = fits-in w32 h.original2 tt tt;
      x2 = fits-in w32
          h.current2 tt tt;
    } in
    let k = whole in fits (omega (arith, signed))

pub overflow_add-result : goal.overflow_add-result
overflow_add-result c =
    let whole : Whole c.args.span.v1 c.args.span.u1 c.args.span.v2 c.args.span.u2 = let h = c.requires.span_holds.0.ordered in
    record {
      w1 = fits-in w32 h.original1 tt tt;
      x1 = fits-in w32 h.current1 tt tt;
      w2 = fits-in w32 h.original2 tt tt;
      x2 = fits-in w32
          h.current2 tt tt;
    } in
    let k = whole also overflow_sub-result c in fits (omega (arith, signed))

pub returns-then-v-span : goal.returns-then-v-span
returns-then-v-span c =
    let whole : Whole c.args.span.v1 c.args.span.u1 c.args.span.v2 c.args.span.u2 = let h = c.requires.span_holds.0.ordered in
    record {
      w1 = fits-in w32 h.original1 tt tt;
      x1 = fits-in w32 h.current1 tt tt;
      w2 = fits-in w32 h.original2 tt tt;
      x2 = fits-in w32
          h.current2 tt tt;
    } in
    let k = whole in
    by₂ ◌+ℤ◌ (is (overflow_add-result c)) (is c.ranges.v) (by₂ ◌-ℤ◌ (is (overflow_sub-result c)) (is k.x1) (is k.w1))
    ∙ sym (interpolated-low c.args.v c.args.span.v1 c.args.span.u1 c.args.span.v2 c.args.span.u2 (omega (arith, signed)))

pub overflow_sub-result-then-span-v : goal.overflow_sub-result-then-span-v
overflow_sub-result-then-span-v c =
    let whole : Whole c.args.span.v1 c.args.span.u1 c.args.span.v2 c.args.span.u2 = let h = c.requires.span_holds.0.ordered in
    record {
      w1 = fits-in w32 h.original1 tt tt;
      x1 = fits-in w32 h.current1 tt tt;
      w2 = fits-in w32 h.original2 tt tt;
      x2 = fits-in w32
          h.current2 tt tt;
    } in
    let k = whole in fits (omega (arith, signed))

pub overflow_add-result-then-span-v : goal.overflow_add-result-then-span-v
overflow_add-result-then-span-v c =
    let whole : Whole c.args.span.v1 c.args.span.u1 c.args.span.v2 c.args.span.u2 = let h = c.requires.span_holds.0.ordered in
    record {
      w1 = fits-in w32 h.original1 tt tt;
      x1 = fits-in w32 h.current1 tt tt;
      w2 = fits-in w32 h.original2 tt tt;
      x2 = fits-in w32
          h.current2 tt tt;
    } in
    let k = whole also overflow_sub-result-then-span-v c in fits (omega (arith, signed))

pub returns-then-span-v : goal.returns-then-span-v
returns-then-span-v c =
    let whole : Whole c.args.span.v1 c.args.span.u1 c.args.span.v2 c.args.span.u2 = let h = c.requires.span_holds.0.ordered in
    record {
      w1 = fits-in w32 h.original1 tt tt;
      x1 = fits-in w32 h.current1 tt tt;
      w2 = fits-in w32 h.original2 tt tt;
      x2 = fits-in w32
          h.current2 tt tt;
    } in
    let above : up c.args.span.v1 + dn c.args.v < up c.args.v + dn c.args.span.v1 = let k = whole in omega (arith, signed) in
    let k = whole in
    by₂ ◌+ℤ◌ (is (overflow_add-result-then-span-v c)) (is c.ranges.v) (by₂ ◌-ℤ◌ (is (overflow_sub-result-then-span-v c)) (is k.x2) (is k.w2))
    ∙ sym (interpolated-high c.args.v c.args.span.v1 c.args.span.u1 c.args.span.v2 c.args.span.u2 above (omega (arith, signed)))

pub returns-then-span : goal.returns-then-span
returns-then-span c =
    let whole : Whole c.args.span.v1 c.args.span.u1 c.args.span.v2 c.args.span.u2 = let h = c.requires.span_holds.0.ordered in
    record {
      w1 = fits-in w32 h.original1 tt tt;
      x1 = fits-in w32 h.current1 tt tt;
      w2 = fits-in w32 h.original2 tt tt;
      x2 = fits-in w32
          h.current2 tt tt;
    } in
    let above : up c.args.span.v1 + dn c.args.v < up c.args.v + dn c.args.span.v1 = let k = whole in omega (arith, signed) in
    let below : up c.args.v + dn c.args.span.v2 < up c.args.span.v2 + dn c.args.v = let k = whole in omega (arith, signed) in
    let k = whole in
    is k.x1 ∙ sym (interpolated-level c.args.v c.args.span.v1 c.args.span.u1 c.args.span.v2 c.args.span.u2 above below
    (sym (is k.x1) ∙ ap (to_z w32) c.if-span.true ∙ is k.x2))

pub overflow_sub-v : goal.overflow_sub-v
overflow_sub-v c =
    let whole : Whole c.args.span.v1 c.args.span.u1 c.args.span.v2 c.args.span.u2 = let h = c.requires.span_holds.0.ordered in
    record {
      w1 = fits-in w32 h.original1 tt tt;
      x1 = fits-in w32 h.current1 tt tt;
      w2 = fits-in w32 h.original2 tt tt;
      x2 = fits-in w32
          h.current2 tt tt;
    } in
    let k = whole in fits (omega (arith, signed))

pub fixed_mul-requires : goal.fixed_mul-requires
fixed_mul-requires c =
    let whole : Whole c.args.span.v1 c.args.span.u1 c.args.span.v2 c.args.span.u2 = let h = c.requires.span_holds.0.ordered in
    record {
      w1 = fits-in w32 h.original1 tt tt;
      x1 = fits-in w32 h.current1 tt tt;
      w2 = fits-in w32 h.original2 tt tt;
      x2 = fits-in w32
          h.current2 tt tt;
    } in
    let sub-v : SFits w32 (to_z w32 (of_z w32 c.args.v) -ℤ to_z w32 (of_z w32 c.args.span.v1)) = let k = whole in fits (omega (arith, signed)) in
    let above : up c.args.span.v1 + dn c.args.v < up c.args.v + dn c.args.span.v1 = let k = whole in omega (arith, signed) in
    let low : up c.args.span.v1 + dn c.args.v < up c.args.v + dn c.args.span.v1 = above in
    let below : up c.args.v + dn c.args.span.v2 < up c.args.span.v2 + dn c.args.v = let k = whole in omega (arith, signed) in
    let high : up c.args.v + dn c.args.span.v2 < up c.args.span.v2 + dn c.args.v = below in
    let gentle : too_steep (c.args.span.u2 -ℤ c.args.span.u1) (c.args.span.v2 -ℤ c.args.span.v1) ≡ false = gentle-law c.args.v c.args.span.v1 c.args.span.u1 c.args.span.v2 c.args.span.u2 low high c.requires.span_holds.1 in
    let law : Fitting (c.args.v -ℤ c.args.span.v1) (c.args.span.u2 -ℤ c.args.span.u1) (c.args.span.v2 -ℤ c.args.span.v1) = fitting-law c.args.v c.args.span.v1 c.args.span.u1 c.args.span.v2 c.args.span.u2 low high c.requires.span_holds.0.ordered gentle in
    let gap : to_z w32 (of_z w32 (to_z w32 (of_z w32 c.args.v) -ℤ to_z w32 (of_z w32 c.args.span.v1))) ≡ c.args.v -ℤ c.args.span.v1 = by₂ ◌-ℤ◌ (is sub-v) (is c.ranges.v) (is whole.w1) in
    let differ : c.args.span.u1 ≡ c.args.span.u2 → ⊥ = λ q. c.if-span.false (ap (of_z w32) q) in
    let scaled : c.args.span.scale ≡ div_fix (c.args.span.u2 -ℤ c.args.span.u1) (c.args.span.v2 -ℤ c.args.span.v1) = let l = low in
    let h = high in
    c.requires.span_holds.0.scaled ∙ slope-is c.args.span.v1 c.args.span.u1 c.args.span.v2 c.args.span.u2 differ (λ q. absurd (omega (arith, signed))) gentle in
    let scale : to_z w32 (of_z w32 c.args.span.scale) ≡ div_fix (c.args.span.u2 -ℤ c.args.span.u1) (c.args.span.v2 -ℤ c.args.span.v1) = ap (λ (z : ℤ). to_z w32 (of_z w32 z)) scaled ∙ is law.quotient in
    subst (SFits w32) (sym (by₂ mul_fix refl gap scale)) law.product

pub overflow_add-result-2 : goal.overflow_add-result-2
overflow_add-result-2 c =
    let whole : Whole c.args.span.v1 c.args.span.u1 c.args.span.v2 c.args.span.u2 = let h = c.requires.span_holds.0.ordered in
    record {
      w1 = fits-in w32 h.original1 tt tt;
      x1 = fits-in w32 h.current1 tt tt;
      w2 = fits-in w32 h.original2 tt tt;
      x2 = fits-in w32
          h.current2 tt tt;
    } in
    let sub-v : SFits w32 (to_z w32 (of_z w32 c.args.v) -ℤ to_z w32 (of_z w32 c.args.span.v1)) = let k = whole in fits (omega (arith, signed)) in
    let step : ℤ = mul_fix (c.args.v -ℤ c.args.span.v1) (div_fix (c.args.span.u2 -ℤ c.args.span.u1) (c.args.span.v2 -ℤ c.args.span.v1)) in
    let above : up c.args.span.v1 + dn c.args.v < up c.args.v + dn c.args.span.v1 = let k = whole in omega (arith, signed) in
    let low : up c.args.span.v1 + dn c.args.v < up c.args.v + dn c.args.span.v1 = above in
    let below : up c.args.v + dn c.args.span.v2 < up c.args.span.v2 + dn c.args.v = let k = whole in omega (arith, signed) in
    let high : up c.args.v + dn c.args.span.v2 < up c.args.span.v2 + dn c.args.v = below in
    let line : AlongLine (c.args.v -ℤ c.args.span.v1) (c.args.span.u2 -ℤ c.args.span.u1) (c.args.span.v2 -ℤ c.args.span.v1) step = along-law c.args.v c.args.span.v1 c.args.span.u1 c.args.span.v2 c.args.span.u2 low high c.requires.span_holds.0.ordered in
    let gap : to_z w32 (of_z w32 (to_z w32 (of_z w32 c.args.v) -ℤ to_z w32 (of_z w32 c.args.span.v1))) ≡ c.args.v -ℤ c.args.span.v1 = by₂ ◌-ℤ◌ (is sub-v) (is c.ranges.v) (is whole.w1) in
    let gentle : too_steep (c.args.span.u2 -ℤ c.args.span.u1) (c.args.span.v2 -ℤ c.args.span.v1) ≡ false = gentle-law c.args.v c.args.span.v1 c.args.span.u1 c.args.span.v2 c.args.span.u2 low high c.requires.span_holds.1 in
    let law : Fitting (c.args.v -ℤ c.args.span.v1) (c.args.span.u2 -ℤ c.args.span.u1) (c.args.span.v2 -ℤ c.args.span.v1) = fitting-law c.args.v c.args.span.v1 c.args.span.u1 c.args.span.v2 c.args.span.u2 low high c.requires.span_holds.0.ordered gentle in
    let differ : c.args.span.u1 ≡ c.args.span.u2 → ⊥ = λ q. c.if-span.false (ap (of_z w32) q) in
    let scaled : c.args.span.scale ≡ div_fix (c.args.span.u2 -ℤ c.args.span.u1) (c.args.span.v2 -ℤ c.args.span.v1) = let l = low in
    let h = high in
    c.requires.span_holds.0.scaled ∙ slope-is c.args.span.v1 c.args.span.u1 c.args.span.v2 c.args.span.u2 differ (λ q. absurd (omega (arith, signed))) gentle in
    let scale : to_z w32 (of_z w32 c.args.span.scale) ≡ div_fix (c.args.span.u2 -ℤ c.args.span.u1) (c.args.span.v2 -ℤ c.args.span.v1) = ap (λ (z : ℤ). to_z w32 (of_z w32 z)) scaled ∙ is law.quotient in
    let product : c.fixed_mul.result ≡ step = by₂ mul_fix c.fixed_mul.ensures gap scale in
    let k = whole also got w32 c.fixed_mul.result c.fixed_mul.type_inv in
    let f = line in
    fits (omega (
      arith,
      signed,
      ap up product,
      ap dn product,
      f.not_above,
      f.not_below,
      sub-law c.args.span.u2 c.args.span.u1,
      one-zero (c.args.span.u2 -ℤ c.args.span.u1),
      c.requires.span_holds.0.ordered,
    ))

pub returns : goal.returns
returns c =
    let whole : Whole c.args.span.v1 c.args.span.u1 c.args.span.v2 c.args.span.u2 = let h = c.requires.span_holds.0.ordered in
    record {
      w1 = fits-in w32 h.original1 tt tt;
      x1 = fits-in w32 h.current1 tt tt;
      w2 = fits-in w32 h.original2 tt tt;
      x2 = fits-in w32
          h.current2 tt tt;
    } in
    let sub-v : SFits w32 (to_z w32 (of_z w32 c.args.v) -ℤ to_z w32 (of_z w32 c.args.span.v1)) = let k = whole in fits (omega (arith, signed)) in
    let above : up c.args.span.v1 + dn c.args.v < up c.args.v + dn c.args.span.v1 = let k = whole in omega (arith, signed) in
    let low : up c.args.span.v1 + dn c.args.v < up c.args.v + dn c.args.span.v1 = above in
    let below : up c.args.v + dn c.args.span.v2 < up c.args.span.v2 + dn c.args.v = let k = whole in omega (arith, signed) in
    let high : up c.args.v + dn c.args.span.v2 < up c.args.span.v2 + dn c.args.v = below in
    let differ : c.args.span.u1 ≡ c.args.span.u2 → ⊥ = λ q. c.if-span.false (ap (of_z w32) q) in
    let gap : to_z w32 (of_z w32 (to_z w32 (of_z w32 c.args.v) -ℤ to_z w32 (of_z w32 c.args.span.v1))) ≡ c.args.v -ℤ c.args.span.v1 = by₂ ◌-ℤ◌ (is sub-v) (is c.ranges.v) (is whole.w1) in
    let gentle : too_steep (c.args.span.u2 -ℤ c.args.span.u1) (c.args.span.v2 -ℤ c.args.span.v1) ≡ false = gentle-law c.args.v c.args.span.v1 c.args.span.u1 c.args.span.v2 c.args.span.u2 low high c.requires.span_holds.1 in
    let law : Fitting (c.args.v -ℤ c.args.span.v1) (c.args.span.u2 -ℤ c.args.span.u1) (c.args.span.v2 -ℤ c.args.span.v1) = fitting-law c.args.v c.args.span.v1 c.args.span.u1 c.args.span.v2 c.args.span.u2 low high c.requires.span_holds.0.ordered gentle in
    let scaled : c.args.span.scale ≡ div_fix (c.args.span.u2 -ℤ c.args.span.u1) (c.args.span.v2 -ℤ c.args.span.v1) = let l = low in
    let h = high in
    c.requires.span_holds.0.scaled ∙ slope-is c.args.span.v1 c.args.span.u1 c.args.span.v2 c.args.span.u2 differ (λ q. absurd (omega (arith, signed))) gentle in
    let scale : to_z w32 (of_z w32 c.args.span.scale) ≡ div_fix (c.args.span.u2 -ℤ c.args.span.u1) (c.args.span.v2 -ℤ c.args.span.v1) = ap (λ (z : ℤ). to_z w32 (of_z w32 z)) scaled ∙ is law.quotient in
    let product : c.fixed_mul.result ≡ (mul_fix (c.args.v -ℤ c.args.span.v1) (div_fix (c.args.span.u2 -ℤ c.args.span.u1) (c.args.span.v2 -ℤ c.args.span.v1))) = by₂ mul_fix c.fixed_mul.ensures gap scale in
    by₂ ◌+ℤ◌ (is (overflow_add-result-2 c)) (is whole.x1) (is (got w32 c.fixed_mul.result c.fixed_mul.type_inv) ∙ product)
    ∙ sym (interpolated-between c.args.v c.args.span.v1 c.args.span.u1 c.args.span.v2 c.args.span.u2 low high differ)
