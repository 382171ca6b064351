-- `fixed::point::magnitude` meets its contract.
use native.Mathlib.Omega.{arith}
use lib.IntN.{ℤ, pos, ◌-ℤ◌}
use mir.Syntax.{w64}
use mir.Val.{to_z, of_z}
use Rattle.signed.proofs.Signed.{signed, fits, to-unsigned, nat_abs-is, one-zero}
use Rattle.fixed.proofs.point.magnitude.Goals as goal
use Rattle.fixed.proofs.point.magnitude.Goals.{Start}

abbrev plain : Start → ℤ
plain s = to_z w64 (of_z w64 s.args.x)

abbrev minus : Start → ℤ
minus s = to_z w64 (of_z w64 (pos 0 -ℤ plain s))

pub overflow_sub-result : goal.overflow_sub-result
overflow_sub-result c = fits (omega (arith, signed))

pub overflow_cast-result : goal.overflow_cast-result
overflow_cast-result c = let h = overflow_sub-result c in to-unsigned w64 (minus c.before) (omega (arith, signed))

pub returns-then-x-lt0 : goal.returns-then-x-lt0
returns-then-x-lt0 c =
    let h = overflow_sub-result c in
    let x = c.args.x in
    let y = minus c.before in
    omega (arith, signed, nat_abs-is y, one-zero y, nat_abs-is x, one-zero x)

pub overflow_cast-result-2 : goal.overflow_cast-result-2
overflow_cast-result-2 c = to-unsigned w64 (plain c.before) (omega (arith, signed))

pub returns : goal.returns
returns c =
    let x = c.args.x in
    let y = plain c.before in
    omega (arith, signed, nat_abs-is y, one-zero y, nat_abs-is x, one-zero x)
