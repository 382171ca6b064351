-- Signed numbers as the machine reads them back from a local's bits.
use mathlib.Core.Path.{◌≡◌, refl, sym, ap, ◌∙◌}
use mathlib.Core.Bool.{Bool, true, false, not}
use Prim.Native.Nat.{◌<◌, ◌^◌}
use native.Mathlib.Omega.{arith}
use borrow.Author.Tests.{eqb-true, eqb-false}
use lib.Dec.{eqb}
use lib.IntN.{ℤ, pos, ◌-ℤ◌}
use lib.Signed.{lt_z, le_z, mag}
use mir.Syntax.{Width, w16, w32}
use mir.Val.{SFits, to_z, of_z, hbits}
use Rattle.signed.specs.Distance.{distance}
use Rattle.signed.specs.Equality.{eq_z}
use Rattle.signed.specs.Range.{Between}
use Rattle.signed.proofs.Equality.{eq_z-yes, eq_z-no}
use Rattle.signed.proofs.Machine.{is, got}
use Rattle.signed.proofs.Operations.{one-zero, nat_abs-is, sub-law}
use Rattle.signed.proofs.Order.{to-≡, to-lt-true, to-lt-false, to-le-true, to-le-false}
use Rattle.signed.proofs.Ranges.{range}
use Rattle.signed.proofs.Rules.{signed, fits}

-- a number that fits is read back
pub back : (w : Width) (z : ℤ) → mag z < 2 ^ hbits w → to_z w (of_z w z) ≡ z
back w z p = is (got w z p)

-- ---- wider types
-- what fits 16 bits fits 32
pub wide-16 : (z : ℤ) → SFits w16 z → SFits w32 z
wide-16 z f = fits (omega (arith, signed, range f))

-- a cast from 16 to 32 bits fits
pub cast-16 : (z : ℤ) → mag z < 2 ^ hbits w16 → SFits w32 (to_z w16 (of_z w16 z))
cast-16 z p = rw (back w16 z p) (wide-16 z (got w16 z p))

-- and is read back
pub back-16 : (z : ℤ) → mag z < 2 ^ hbits w16 → to_z w32 (of_z w32 (to_z w16 (of_z w16 z))) ≡ z
back-16 z p = rw (back w16 z p) (is (wide-16 z (got w16 z p)))

-- ---- differences of coordinates
-- of two of 16 bits the difference fits 32
apart : (x y : ℤ) → mag x < 2 ^ hbits w16 → mag y < 2 ^ hbits w16 → SFits w32 (x -ℤ y)
apart x y p q = fits (omega (arith, signed, range (got w16 x p), range (got w16 y q)))

pub sub-fits : (x y : ℤ) → mag x < 2 ^ hbits w16 → mag y < 2 ^ hbits w16
    → SFits w32 (to_z w32 (of_z w32 (to_z w16 (of_z w16 x))) -ℤ to_z w32 (of_z w32 (to_z w16 (of_z w16 y))))
sub-fits x y p q = rw (back-16 x p, back-16 y q) (apart x y p q)

-- and is read back
pub sub_is : (x y : ℤ) → mag x < 2 ^ hbits w16 → mag y < 2 ^ hbits w16
    → to_z w32 (of_z w32 (to_z w32 (of_z w32 (to_z w16 (of_z w16 x))) -ℤ to_z w32 (of_z w32 (to_z w16 (of_z w16 y))))) ≡ x -ℤ y
sub_is x y p q = rw (back-16 x p, back-16 y q) (is (apart x y p q))

-- the difference that is not below zero is the distance
pub distance-up : (a b : ℤ) → lt_z a b ≡ true → b -ℤ a ≡ pos (distance a b)
distance-up a b e =
    to-≡ (b -ℤ a) (pos (distance a b))
    (omega (arith, signed, sub-law b a, sub-law a b, one-zero (b -ℤ a), one-zero (a -ℤ b), nat_abs-is (a -ℤ b)))

pub distance-down : (a b : ℤ) → lt_z a b ≡ false → a -ℤ b ≡ pos (distance a b)
distance-down a b e = to-≡ (a -ℤ b) (pos (distance a b)) (omega (arith, signed, sub-law a b, one-zero (a -ℤ b), nat_abs-is (a -ℤ b)))

-- ---- tests
-- one order test is the other turned round
pub turned_lt : (x y : ℤ) → le_z y x ≡ not (lt_z x y)
turned_lt x y = by (lt_z x y) refl
  where
    by : (t : Bool) → lt_z x y ≡ t → le_z y x ≡ not t
    by true e = to-le-false y x (omega (arith, signed))
    by false e = to-le-true y x (omega (arith, signed))

pub turned_le : (x y : ℤ) → lt_z y x ≡ not (le_z x y)
turned_le x y = by (le_z x y) refl
  where
    by : (t : Bool) → le_z x y ≡ t → lt_z y x ≡ not t
    by true e = to-lt-false y x (omega (arith, signed))
    by false e = to-lt-true y x (omega (arith, signed))

module _ (w : Width) (x y : ℤ) (p : mag x < 2 ^ hbits w) (q : mag y < 2 ^ hbits w) where
  -- a test of two numbers read back is the test of the two
  pub lt_same : lt_z (to_z w (of_z w x)) (to_z w (of_z w y)) ≡ lt_z x y
  lt_same = rw (back w x p, back w y q)

  pub le_same : le_z (to_z w (of_z w x)) (to_z w (of_z w y)) ≡ le_z x y
  le_same = rw (back w x p, back w y q)

  -- what it showed
  pub lt-was : {v : Bool} → lt_z (to_z w (of_z w x)) (to_z w (of_z w y)) ≡ v → lt_z x y ≡ v
  lt-was e = sym lt_same ∙ e

  -- what it showed of the other order
  pub lt-turned : {v : Bool} → lt_z (to_z w (of_z w x)) (to_z w (of_z w y)) ≡ v → le_z y x ≡ not v
  lt-turned e = turned_lt x y ∙ ap not (lt-was e)

  pub le-turned : {v : Bool} → le_z (to_z w (of_z w x)) (to_z w (of_z w y)) ≡ v → lt_z y x ≡ not v
  le-turned e = turned_le x y ∙ ap not (sym le_same ∙ e)

  -- equality is tested by the bits
  pub eq-same : eqb (of_z w x) (of_z w y) ≡ eq_z x y
  eq-same = by (eqb (of_z w x) (of_z w y)) refl
    where
      by : (t : Bool) → eqb (of_z w x) (of_z w y) ≡ t → t ≡ eq_z x y
      by true e = sym (eq_z-yes x y (sym (back w x p) ∙ ap (to_z w) (eqb-true (of_z w x) (of_z w y) e) ∙ back w y q))
      by false e = sym (eq_z-no x y (λ (d : x ≡ y). eqb-false (of_z w x) (of_z w y) e (ap (of_z w) d)))

module _ (x y : ℤ) (p : mag x < 2 ^ hbits w16) (q : mag y < 2 ^ hbits w32) where
  -- what a test of a number of 16 bits against one of 32 showed
  pub short-lt : {v : Bool} → lt_z (to_z w32 (of_z w32 (to_z w16 (of_z w16 x)))) (to_z w32 (of_z w32 y)) ≡ v → lt_z x y ≡ v
  short-lt e = rw (back-16 x p, back w32 y q) at e

  pub lt-short : {v : Bool} → lt_z (to_z w32 (of_z w32 y)) (to_z w32 (of_z w32 (to_z w16 (of_z w16 x)))) ≡ v → lt_z y x ≡ v
  lt-short e = rw (back-16 x p, back w32 y q) at e

-- a number of 16 bits by its range
pub short : (z : ℤ) → mag z < 2 ^ hbits w16 → Between 32768 32767 z
short z p = omega (arith, signed, range (got w16 z p))
