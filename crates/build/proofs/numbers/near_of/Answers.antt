-- `build::numbers::near_of` meets its contract: by the three cases of the threshold.
use native.Mathlib.Omega.{arith}
use mathlib.Core.Path.{◌≡◌, sym, ap, ◌∙◌}
use mathlib.Core.Bool.{Bool, true, false}
use lib.IntN.{nat_abs}
use lib.Signed.{lt_z}
use mir.Syntax.{w32, w64}
use mir.Val.{to_z, of_z}
use Rattle.signed.proofs.Signed.{signed, fits, range, is, got}
use Rattle.fixed.specs.Point.{mul_fix, div_fix}
use Rattle.signed.proofs.By.{by₂}
use Rattle.build.specs.Building.{most_distance}
use Rattle.build.proofs.Scales.{scaled_fits, quotient-near, number-near, over, under-cjk, under-latin}
use Rattle.build.proofs.numbers.near_of.Goals as goal
use Rattle.build.proofs.numbers.near_of.Goals.{After-fixed_mul-scaled, After-wide_div, After-wide_div-2}

-- the threshold at the scale, as the code's local holds it
scaled : (c : After-fixed_mul-scaled) → to_z w32 (of_z w32 c.fixed_mul-scaled.result) ≡ mul_fix c.args.distance c.args.scale
scaled c =
    is (got w32 c.fixed_mul-scaled.result c.fixed_mul-scaled.type_inv) ∙ by₂ mul_fix c.fixed_mul-scaled.ensures (is c.ranges.distance) (is c.ranges.scale)

tested : (c : After-fixed_mul-scaled) (v : Bool) → lt_z most_distance (to_z w32 (of_z w32 c.fixed_mul-scaled.result)) ≡ v
    → lt_z most_distance (mul_fix c.args.distance c.args.scale) ≡ v
tested c v e = sym (ap (lt_z most_distance) (scaled c)) ∙ e

pub fixed_mul-scaled-requires : goal.fixed_mul-scaled-requires
fixed_mul-scaled-requires c = rw (is c.ranges.distance, is c.ranges.scale) (scaled_fits _ _ c.requires.0 c.requires.1)

pub wide_div-requires : goal.wide_div-requires
wide_div-requires c = let start = c.before.before in rw (is start.ranges.scale) start.requires.2

-- the two quotients
most : (c : After-wide_div) → to_z w64 (of_z w64 c.wide_div.result) ≡ div_fix most_distance c.args.scale
most c = is (got w64 c.wide_div.result c.wide_div.type_inv) ∙ c.wide_div.ensures ∙ ap (div_fix most_distance) (is c.ranges.scale)

own : (c : After-wide_div-2)
    → to_z w64 (of_z w64 c.wide_div-2.result)
    ≡ div_fix (mul_fix c.args.distance c.args.scale)
    c.args.scale
own c =
    let fixed-mul = c.before.before.before in
    let start = fixed-mul.before in
    is (got w64 c.wide_div-2.result c.wide_div-2.type_inv) ∙ by₂ div_fix c.wide_div-2.ensures (scaled fixed-mul) (is start.ranges.scale)

pub magnitude-requires : goal.magnitude-requires
magnitude-requires c = rw (most c) (quotient-near most_distance _ (fits (omega (arith, signed))) c.requires.2)

pub returns-then-scaled-gt-MOST_DISTANCE : goal.returns-then-scaled-gt-MOST_DISTANCE
returns-then-scaled-gt-MOST_DISTANCE c =
    let wide-div = c.before in
    let then1 = wide-div.before in
    rw (most wide-div) at c.magnitude.ensures ∙ ap nat_abs (sym (over _ _ _ (tested then1.before true then1.if-scaled-gt-MOST_DISTANCE.true)))

pub overflow_cast-distance : goal.overflow_cast-distance
overflow_cast-distance c = fits (omega (arith, signed, range c.ranges.distance))

pub magnitude-requires-then-cjk : goal.magnitude-requires-then-cjk
magnitude-requires-then-cjk c =
    let start = c.before.before.before in
    rw (is (overflow_cast-distance c), is start.ranges.distance) (number-near _ start.ranges.distance)

pub returns-then-cjk : goal.returns-then-cjk
returns-then-cjk c =
    let then2 = c.before in
    let else1 = then2.before in
    let start = else1.before.before in
    rw (is (overflow_cast-distance then2), is start.ranges.distance) at c.magnitude-then-cjk.ensures
    ∙ ap nat_abs (sym (under-cjk _ _ _ (tested else1.before false else1.if-scaled-gt-MOST_DISTANCE.false) then2.if-cjk.true))

pub wide_div-requires-2 : goal.wide_div-requires-2
wide_div-requires-2 c = let start = c.before.before.before in rw (is start.ranges.scale) start.requires.2

pub magnitude-requires-2 : goal.magnitude-requires-2
magnitude-requires-2 c =
    let start = c.before.before.before.before in
    rw (own c) (quotient-near _ _ (scaled_fits _ _ start.requires.0 start.requires.1) start.requires.2)

pub returns : goal.returns
returns c =
    let wide-div = c.before in
    let else2 = wide-div.before in
    let else1 = else2.before in
    rw (own wide-div) at c.magnitude-2.ensures ∙ ap nat_abs (sym (under-latin _ _ _ (tested else1.before false else1.if-scaled-gt-MOST_DISTANCE.false) else2.if-cjk.false))
