-- Fixed divide's two answers.
use Rattle.std.specs.Prelude.{None, Some}
use mathlib.Core.Path.{◌≡◌, refl, sym, ap, ◌∙◌}
use mathlib.Core.Bool.{Bool, true, false, cond}
use Prim.Native.Nat.{ℕ, zero, suc, ◌*◌, ◌≤◌, ◌<◌}
use native.Mathlib.Omega.{arith}
use borrow.Author.Tests.{lt-ltb, le-ltb}
use lib.IntN.{ℤ, pos, neg_ℤ, nat_abs}
use lib.Signed.{lt_z}
use Rattle.signed.specs.Range.{Between}
use Rattle.signed.proofs.Signed.{nat_abs-is, one-zero}
use Rattle.fixed.specs.Point.{rounded, div_fix}
use Rattle.fixed.specs.Steps.{signed_like}
use Rattle.fixed.specs.Quotient.{Quotient}
use Rattle.fixed.specs.Divide.{steepest, too_steep, quotient_of}
use Rattle.fixed.proofs.Rounding.{div-sign}

-- ---- by the magnitude of the quotient
-- a magnitude with a sign
signed-size : (n : ℕ) (a b : ℤ) → nat_abs (signed_like n a b) ≡ n
unfolding signed_like
signed-size n a b = by (lt_z a (pos 0)) (lt_z b (pos 0))
  where
    turned : (m : ℕ) → nat_abs (neg_ℤ (pos m)) ≡ m
    turned zero = refl
    turned (suc m) = refl

    by : (s t : Bool) → nat_abs (cond s (cond t (pos n) (neg_ℤ (pos n))) (cond t (neg_ℤ (pos n)) (pos n))) ≡ n
    by true true = refl
    by true false = turned n
    by false true = turned n
    by false false = refl

module _ (a b : ℤ) (q : ℕ) (h : 0 < nat_abs b) (e : q ≡ rounded (nat_abs a * 65536) (nat_abs b)) where
  size_is : nat_abs (div_fix a b) ≡ q
  size_is = ap nat_abs (div-sign a b h) ∙ signed-size (rounded (nat_abs a * 65536) (nat_abs b)) a b ∙ sym e

  -- beyond the range
  pub steep-of : steepest < q → None ≡ quotient_of a b
  unfolding quotient_of too_steep
  steep-of g = rw (lt-ltb steepest (nat_abs (div_fix a b)) (omega (arith, size_is)))

  -- and within it
  pub not-steep-of : q ≤ steepest → Some (div_fix a b) ≡ quotient_of a b
  unfolding quotient_of too_steep
  not-steep-of g = rw (le-ltb steepest (nat_abs (div_fix a b)) (omega (arith, size_is)))

  pub quotient_fits : q ≤ steepest → Between steepest steepest (div_fix a b)
  quotient_fits g = omega (arith, size_is, nat_abs-is (div_fix a b), one-zero (div_fix a b))

-- ---- what an answer tells
pub told-steep : (a b : ℤ) → quotient_of a b ≡ None → too_steep a b ≡ true
unfolding quotient_of
told-steep a b e = by (too_steep a b) refl e
  where
    by : (t : Bool) → too_steep a b ≡ t → cond t None (Some (div_fix a b)) ≡ None → too_steep a b ≡ true
    by true q h = q
    by false q h = absurd (let n : ◌≡◌ {A = ℕ} 0 1 = cc in omega arith)

pub told_of : (a b z : ℤ) → quotient_of a b ≡ Some z → (too_steep a b ≡ false) × (z ≡ div_fix a b)
unfolding quotient_of
told_of a b z e = by (too_steep a b) refl e
  where
    by : (t : Bool) → too_steep a b ≡ t → cond t None (Some (div_fix a b)) ≡ Some z → (too_steep a b ≡ false) × (z ≡ div_fix a b)
    by true q h = absurd (let n : ◌≡◌ {A = ℕ} 0 1 = cc in omega arith)
    by false q h = (q, let w : z ≡ div_fix a b = cc in w)
