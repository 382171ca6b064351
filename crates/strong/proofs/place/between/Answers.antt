-- `strong::place::between` meets its contract: the product lies between 0 and the difference of the positions.
use borrow.Author.Rules.{rules}
use native.Mathlib.Omega.{arith}
use mathlib.Core.Path.{◌≡◌, refl, sym, ap, subst, ◌∙◌}
use mathlib.Core.Bool.{false}
use Prim.Native.Nat.{◌<◌}
use lib.IntN.{ℤ, nat_abs, ◌+ℤ◌, ◌-ℤ◌}
use mir.Syntax.{w32}
use mir.Val.{to_z, of_z, SFits}
use Rattle.signed.proofs.Signed.{is, got, fits, fits-in, signed, ◌also◌}
use Rattle.signed.proofs.By.{by₂}
use Rattle.fixed.specs.Point.{mul_fix, div_fix}
use Rattle.fixed.specs.Divide.{quotient_of, too_steep}
use Rattle.fixed.proofs.Quotients.{told-steep, told_of}
use Rattle.strong.specs.declared.place.Place.TheVariants.{At}
use Rattle.strong.proofs.Places.{step, some, step_fits, sum-between, between-steep, between-at}
use Rattle.strong.proofs.place.between.Goals as goal
use Rattle.strong.proofs.place.between.Goals.{After-fixed_div-quotient, After-fixed_mul, In-Some, Start}

pub overflow_sub-p2 : goal.overflow_sub-p2
overflow_sub-p2 c = let f = c.ranges in fits (omega (arith, signed))

pub overflow_sub-f2 : goal.overflow_sub-f2
overflow_sub-f2 c = let f = c.ranges in fits (omega (arith, signed))

-- the differences as the machine reads them
module _ (c : Start) where
  positions : to_z w32 (of_z w32 (to_z w32 (of_z w32 c.args.p2) -ℤ to_z w32 (of_z w32 c.args.p1))) ≡ c.args.p2 -ℤ c.args.p1
  positions = by₂ ◌-ℤ◌ (is (overflow_sub-p2 c)) (is c.ranges.p2) (is c.ranges.p1)

  fonts : to_z w32 (of_z w32 (to_z w32 (of_z w32 c.args.f2) -ℤ to_z w32 (of_z w32 c.args.f1))) ≡ c.args.f2 -ℤ c.args.f1
  fonts = by₂ ◌-ℤ◌ (is (overflow_sub-f2 c)) (is c.ranges.f2) (is c.ranges.f1)

pub fixed_div-quotient-requires : goal.fixed_div-quotient-requires
fixed_div-quotient-requires c =
    let a = c.args in
    let p = c.requires.f1_lt_u in
    subst (λ (z : ℤ). 0 < nat_abs z) (sym (fonts c)) (some a.u a.f1 a.p1 a.f2 a.p2 p.0 p.1)

-- what fixed divide answers
told : (c : After-fixed_div-quotient) → c.fixed_div-quotient.result ≡ quotient_of (c.args.p2 -ℤ c.args.p1) (c.args.f2 -ℤ c.args.f1)
told c = by₂ quotient_of c.fixed_div-quotient.ensures (positions c.before) (fonts c.before)

pub returns-in_default : goal.returns-in_default
returns-in_default c =
    let d = c.before in
    let a = d.args in
    sym (between-steep a.u a.f1 a.p1 a.f2 a.p2 (told-steep _ _ (sym (told d) ∙ c.in_default.is)))

-- the start, from behind the quotient
abbrev start : In-Some → Start
start c = c.before.before

-- the quotient, and that it is not too steep
quotient : (c : In-Some)
    → (too_steep ((start c).args.p2 -ℤ (start c).args.p1) ((start c).args.f2 -ℤ (start c).args.f1) ≡ false)
    × (c.in-Some.scale ≡ div_fix ((start c).args.p2 -ℤ (start c).args.p1) ((start c).args.f2 -ℤ (start c).args.f1))
quotient c =
    let d = c.before in
    let a = d.args in
    told_of (a.p2 -ℤ a.p1) (a.f2 -ℤ a.f1) c.in-Some.scale (sym (told d) ∙ c.in-Some.is)

pub overflow_sub-u : goal.overflow_sub-u
overflow_sub-u c = let f = (start c).ranges also (start c).requires in fits (omega (arith, signed))

-- the factors as the machine reads them
module _ (c : In-Some) where
  gap : to_z w32 (of_z w32 (to_z w32 (of_z w32 (start c).args.u) -ℤ to_z w32 (of_z w32 (start c).args.f1))) ≡ (start c).args.u -ℤ (start c).args.f1
  gap = by₂ ◌-ℤ◌ (is (overflow_sub-u c)) (is (start c).ranges.u) (is (start c).ranges.f1)

  scale : to_z w32 (of_z w32 c.in-Some.scale) ≡ div_fix ((start c).args.p2 -ℤ (start c).args.p1) ((start c).args.f2 -ℤ (start c).args.f1)
  scale = is (got w32 c.in-Some.scale c.in-Some.known_told-1-own.given.0.1) ∙ (quotient c).1

-- how far behind the first's position
abbrev far : Start → ℤ
far s = let a = s.args in step a.u a.f1 a.p1 a.f2 a.p2

pub fixed_mul-requires : goal.fixed_mul-requires
fixed_mul-requires c =
    let s = start c in
    let a = s.args in
    let p = s.requires in
    subst (SFits w32) (sym (by₂ mul_fix refl (gap c) (scale c)))
    (step_fits a.u a.f1 a.p1 a.f2 a.p2 p.f1_lt_u.0 p.f1_lt_u.1 p.f1_lt_u.2 p.f1_lt_u.3 p.between.0 p.between.1)

-- the product
product : (c : After-fixed_mul) → to_z w32 (of_z w32 c.fixed_mul.result) ≡ far (start c.before)
product c = is (got w32 c.fixed_mul.result c.fixed_mul.type_inv) ∙ by₂ mul_fix c.fixed_mul.ensures (gap c.before) (scale c.before)

-- the sum, read back, is one of positions
sum_is : (c : After-fixed_mul) → to_z w32 (of_z w32 (start c.before).args.p1) +ℤ to_z w32 (of_z w32 c.fixed_mul.result)
    ≡ (start c.before).args.p1 +ℤ far (start c.before)
sum_is c = by₂ ◌+ℤ◌ refl (is (start c.before).ranges.p1) (product c)

sum_fits : (s : Start) → SFits w32 (s.args.p1 +ℤ far s)
sum_fits s =
    let a = s.args in
    let p = s.requires in
    fits-in w32 (sum-between a.u a.f1 a.p1 a.f2 a.p2 p.f1_lt_u.0 p.f1_lt_u.1 p.f1_lt_u.2 p.f1_lt_u.3 p.between.0 p.between.1) tt tt

pub overflow_add-result : goal.overflow_add-result
overflow_add-result c = subst (SFits w32) (sym (sum_is c)) (sum_fits (start c.before))

pub returns : goal.returns
returns c =
    let k = c.before in
    let a = (start k).args in
    ap At (is (overflow_add-result c) ∙ sum_is c) ∙ sym (between-at a.u a.f1 a.p1 a.f2 a.p2 (quotient k).0)
