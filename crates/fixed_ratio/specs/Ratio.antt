-- Multiply-divide.
use Rattle.std.specs.Prelude.{ℕ, ℤ, ◌*ℤ◌}
use Rattle.fixed.specs.Point.{rounded_z}

-- a·b / c rounded to nearest, halves away from zero
unfoldable pub mul_div : ℤ → ℤ → ℤ → ℤ
mul_div a b c = rounded_z (a *ℤ b) c

-- the largest magnitude of a product of two numbers of 32 bits
abbrev pub most_product : ℕ
most_product = 4611686018427387904
