-- Quotients of whole numbers by powers of two that 32-bit floats hold with no rounding.
use Rattle.std.specs.Prelude.{ℕ, Bool, true, false, ℤ, pos, negsuc, nat_abs, Float}
use Rattle.std.specs.Float.Ieee.{odd}
use Rattle.std.specs.Float.Ieee.Exact.{HasValue}

-- coordinates up to this either way: the sum of two has at most the 24 binary digits of an f32
abbrev pub most_exact : ℕ
most_exact = 8388607

abbrev pub negative : ℤ → Bool
negative (pos n) = false
negative (negsuc n) = true

-- the float that is z / 2 ^ k: finite, with z's sign, written with an odd mantissa; zero is +0
unfoldable pub over : ℤ → ℕ → Float
over z k = odd 24 (negative z) (nat_abs z) 0 k

-- the float x is the number z / c exactly
abbrev pub Exactly : Float → ℤ → ℕ → Type 0
Exactly x z c = HasValue x (negative z) (nat_abs z) c
