-- Numbers of two bytes.
use mathlib.Core.Path.{◌≡◌, ap, ◌∙◌}
use Prim.Native.Nat.{ℕ, ◌+◌, ◌*◌, ◌/◌, ◌%◌, ◌<◌}
use native.Mathlib.Omega.{arith}
use lib.IntN.{ℤ}
use mir.Syntax.{w16}
use mir.Val.{Fits, SFits, to_z, of_z}
use mir.Facts.{of_z-to_z}
use Rattle.signed.proofs.Signed.{signed, is, bits_of}
use Rattle.log_digits.specs.Digits.{high_of, low_of, number_of}

-- the bits of a number that fits are two bytes
pub bits_small : (z : ℤ) → SFits w16 z → of_z w16 z < 65536
bits_small z h = omega (arith, signed, bits_of h)

-- each is one
pub high_small : (z : ℤ) → SFits w16 z → high_of z < 256
unfolding high_of
high_small z h = omega (arith, bits_small z h)

pub low_small : (z : ℤ) → low_of z < 256
unfolding low_of
low_small z = omega arith

-- from a number to its bytes and back
pub number-back : (z : ℤ) → SFits w16 z → number_of (high_of z) (low_of z) ≡ z
unfolding number_of high_of low_of
number-back z h = let e : 256 * (of_z w16 z / 256) + of_z w16 z % 256 ≡ of_z w16 z = omega arith in ap (to_z w16) e ∙ is h

-- and from bytes to a number and back
module _ (h l : ℕ) (high : h < 256) (low : l < 256) where
  fits : Fits w16 (256 * h + l)
  fits = record { fits = omega arith }

  pub high-back : high_of (number_of h l) ≡ h
  unfolding number_of high_of
  high-back = ap (λ (n : ℕ). n / 256) (of_z-to_z fits) ∙ omega arith

  pub low-back : low_of (number_of h l) ≡ l
  unfolding number_of low_of
  low-back = ap (λ (n : ℕ). n % 256) (of_z-to_z fits) ∙ omega arith
