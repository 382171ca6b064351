-- Fixed divide and multiply-divide made total.
use Rattle.std.specs.Prelude.{cond, eqb, ℤ, pos, nat_abs}
use Rattle.fixed.specs.Point.{div_fix}
use Rattle.fixed_ratio.specs.Ratio.{mul_div}

-- fixed divide, and 0 where there is no divisor
unfoldable pub div_or_zero : ℤ → ℤ → ℤ
div_or_zero a b = cond (eqb (nat_abs b) 0) (pos 0) (div_fix a b)

-- multiply-divide, and 0 where there is no divisor
unfoldable pub mul_div_or_zero : ℤ → ℤ → ℤ → ℤ
mul_div_or_zero a b c = cond (eqb (nat_abs c) 0) (pos 0) (mul_div a b c)
