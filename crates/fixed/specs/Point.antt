-- Fixed multiply, fixed divide and the derived constant.
use Rattle.std.specs.Prelude.{ℕ, suc, ◌+◌, ◌*◌, ◌/◌, ℤ, pos, negsuc, neg_ℤ, ◌*ℤ◌}
use Rattle.std.specs.Int.Signed.{quot_z}

-- n / d rounded to nearest, a half upward: n / d and a half, rounded down
unfoldable pub rounded : ℕ → ℕ → ℕ
rounded n d = (2 * n + d) / (2 * d)

-- n / d rounded to nearest, halves away from zero
unfoldable pub rounded_z : ℤ → ℤ → ℤ
rounded_z (pos n) (pos d) = pos (rounded n d)
rounded_z (pos n) (negsuc d) = neg_ℤ (pos (rounded n (suc d)))
rounded_z (negsuc n) (pos d) = neg_ℤ (pos (rounded (suc n) d))
rounded_z (negsuc n) (negsuc d) = pos (rounded (suc n) (suc d))

-- fixed multiply: a·b / 65,536 rounded to nearest, halves away from zero
unfoldable pub mul_fix : ℤ → ℤ → ℤ
mul_fix a b = rounded_z (a *ℤ b) (pos 65536)

-- fixed divide: a·65,536 / b rounded the same way
unfoldable pub div_fix : ℤ → ℤ → ℤ
div_fix a b = rounded_z (a *ℤ pos 65536) b

-- derived constant: c · units per em / 2048, fraction dropped
unfoldable pub derived : ℤ → ℤ → ℤ
derived upem c = quot_z (c *ℤ upem) (pos 2048)
