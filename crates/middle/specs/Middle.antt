-- The middle of two 32-bit coordinates and half their difference, with the wraps that document 01 asks for.
use Rattle.std.specs.Prelude.{◌≡◌, ℕ, suc, ◌-◌, ◌%◌, ◌^◌, ℤ, pos, negsuc, ◌+ℤ◌, ◌-ℤ◌}
use Rattle.std.specs.Int.Signed.{shr_z}
use Rattle.std.specs.Int.{Width, w16, w32}
use mir.Val.{to_z, bits}

-- the least natural number that differs from z by a multiple of m
unfoldable pub residue : ℤ → ℕ → ℕ
residue (pos n) m = n % m
residue (negsuc n) m = m - suc (n % m)

-- the low bits of z, as many as the width has, read as signed: z wrapped around at the width
unfoldable pub wrap_z : Width → ℤ → ℤ
wrap_z w z = to_z w (residue z (2 ^ bits w))

-- `compute_mid_pos`: the sum wraps around at 32 bits, is halved downward, and its low 16 bits are read as signed
unfoldable pub mid_pos : ℤ → ℤ → ℤ
mid_pos min max = wrap_z w16 (shr_z (wrap_z w32 (min +ℤ max)) 2)

-- what it owes its caller: the answer r
abbrev pub ComputesMidPos : ℤ → ℤ → ℤ → Type 0
ComputesMidPos min max r = r ≡ mid_pos min max

-- `compute_mid_delta`: the same of the difference
unfoldable pub mid_delta : ℤ → ℤ → ℤ
mid_delta min max = wrap_z w16 (shr_z (wrap_z w32 (max -ℤ min)) 2)

abbrev pub ComputesMidDelta : ℤ → ℤ → ℤ → Type 0
ComputesMidDelta min max r = r ≡ mid_delta min max
