-- `stems_cjk::stem::start_of` meets its contract.
use mathlib.Core.Path.{◌≡◌, ap, ◌∙◌}
use native.Mathlib.Omega.{arith}
use lib.IntN.{ℤ, pos, ◌+ℤ◌, ◌-ℤ◌}
use lib.Signed.{quot_z}
use mir.Syntax.{w32}
use mir.Val.{to_z, of_z}
use Rattle.signed.proofs.Signed.{fits, is, fits-quot, back_fits, ◌also◌, signed}
use Rattle.stems_cjk.specs.Cjk.{start_of}
use Rattle.stems_cjk.proofs.stem.start_of.Goals as goal
use Rattle.stems_cjk.proofs.stem.start_of.Goals.{Start}

pub overflow_add-centre : goal.overflow_add-centre
overflow_add-centre c = fits (omega (arith, signed))

-- the two halves fit
pub nonzero_div-centre : goal.nonzero_div-centre
nonzero_div-centre c = (omega arith, fits-quot _ _ (back_fits (overflow_add-centre c)) tt)

pub overflow_add-centre-2 : goal.overflow_add-centre-2
overflow_add-centre-2 c = let k = overflow_add-centre c also (nonzero_div-centre c).1 in fits (omega (arith, signed))

pub nonzero_div-result : goal.nonzero_div-result
nonzero_div-result c = (omega arith, fits-quot _ _ (back_fits c.ranges.width) tt)

pub overflow_sub-result : goal.overflow_sub-result
overflow_sub-result c = let k = overflow_add-centre c also (nonzero_div-centre c).1 also overflow_add-centre-2 c also (nonzero_div-result c).1 in fits (omega (arith, signed))

-- the centre between the original positions, and half the width
centre-is : (c : Start) → to_z w32 (of_z w32 (quot_z (to_z w32 (of_z w32 (to_z w32 (of_z w32 c.args.opos1) +ℤ to_z w32 (of_z w32 c.args.opos2)))) (pos 2)))
    ≡ quot_z (c.args.opos1 +ℤ c.args.opos2) (pos 2)
centre-is c = is (nonzero_div-centre c).1 ∙ ap (λ (z : ℤ). quot_z z (pos 2)) (is (overflow_add-centre c) ∙ λ i. is c.ranges.opos1 i +ℤ is c.ranges.opos2 i)

half_is : (c : Start) → to_z w32 (of_z w32 (quot_z (to_z w32 (of_z w32 c.args.width)) (pos 2))) ≡ quot_z c.args.width (pos 2)
half_is c = is (nonzero_div-result c).1 ∙ ap (λ (z : ℤ). quot_z z (pos 2)) (is c.ranges.width)

pub returns : goal.returns
unfolding start_of
returns c = is (overflow_sub-result c) ∙ λ i. (is (overflow_add-centre-2 c) ∙ λ j. centre-is c j +ℤ is c.ranges.delta j) i -ℤ half_is c i
