-- Pixel rows between two positions: which they are, and when there is none.
use mathlib.Core.Path.{◌≡◌, refl, sym, ◌∙◌}
use mathlib.Core.Bool.{Bool, true, false, cond}
use native.Mathlib.Omega.{arith}
use lib.IntN.{ℤ, pos, ◌+ℤ◌, ◌-ℤ◌, ◌*ℤ◌}
use lib.Signed.{lt_z, le_z, ◌≤ℤ◌, ◌<ℤ◌}
use Rattle.signed.specs.Equality.{eq_z}
use Rattle.signed.proofs.Signed.{signed, add-law, sub-law, mul-up, mul-dn, shr-law, eq_z-yes, eq_z-no, eq_z-true, is-<ℤ, is-≤ℤ, to-le-true, to-le-false, same}
use Rattle.gaps.specs.Gaps.{centre, row_from, rows, RowBetween}

-- ---- the first row
-- the centre of a row is not below p from the first one on, and in no other
pub from_first : (p k : ℤ) → row_from p ≤ℤ k → p ≤ℤ centre k
unfolding row_from
from_first p k h = omega (arith, signed, h, shr-law (p +ℤ pos 31) 64 tt, add-law p (pos 31), add-law (k *ℤ pos 64) (pos 32), mul-up k 64, mul-dn k 64)

pub first-from : (p k : ℤ) → p ≤ℤ centre k → row_from p ≤ℤ k
unfolding row_from
first-from p k h = omega (arith, signed, h, shr-law (p +ℤ pos 31) 64 tt, add-law p (pos 31), add-law (k *ℤ pos 64) (pos 32), mul-up k 64, mul-dn k 64)

-- ---- the rows between p and q
module _ (p q : ℤ) where
  -- they are those from the first row of p to the one in front of the first row of q
  pub rows_are : (k : ℤ) → row_from p ≤ℤ k → k <ℤ row_from q → RowBetween p q k
  rows_are k h g = record { not_below = from_first p k h; below = by (le_z q (centre k)) refl }
    where
      by : (t : Bool) → le_z q (centre k) ≡ t → centre k <ℤ q
      by true e = let z = first-from q k (is-≤ℤ q (centre k) e) in absurd (omega (arith, signed, g, z))
      by false e = omega (arith, signed, e)

  pub are-rows : (k : ℤ) → RowBetween p q k → (row_from p ≤ℤ k) × (k <ℤ row_from q)
  are-rows k r = (first-from p k r.not_below, by (le_z (row_from q) k) refl)
    where
      by : (t : Bool) → le_z (row_from q) k ≡ t → k <ℤ row_from q
      by true e = let z = from_first q k (is-≤ℤ (row_from q) k e) in let w = r.below in absurd (omega (arith, signed, z, w))
      by false e = omega (arith, signed, e)

  -- the first row of a higher position is no lower
  first-rises : p ≤ℤ q → row_from p ≤ℤ row_from q
  first-rises h = let z = from_first q (row_from q) (omega (arith, signed)) in first-from p (row_from q) (omega (arith, signed, h, z))

module _ (p q : ℤ) where
  -- there is none exactly where the first row of q is not above that of p
  pub none_is : eq_z (rows p q) (pos 0) ≡ le_z (row_from q) (row_from p)
  unfolding rows
  none_is = by (lt_z p q) refl (le_z (row_from q) (row_from p)) refl
    where
      by : (t : Bool) → lt_z p q ≡ t → (u : Bool) → le_z (row_from q) (row_from p) ≡ u → eq_z (cond t (row_from q -ℤ row_from p) (pos 0)) (pos 0) ≡ u
      by true h true e =
          let z = first-rises p q (omega (arith, signed, h)) in
          eq_z-yes (row_from q -ℤ row_from p) (pos 0) (same (omega (arith, signed, e, z, sub-law (row_from q) (row_from p))))
      by true h false e =
          eq_z-no (row_from q -ℤ row_from p) (pos 0) (λ (z : (row_from q -ℤ row_from p) ≡ pos 0). let w = z in omega
          (arith, signed, e, w, sub-law (row_from q) (row_from p)))
      by false h true e = eq_z-yes (pos 0) (pos 0) refl
      by false h false e = let z = first-rises q p (omega (arith, signed, h)) in absurd (omega (arith, signed, e, z))

  -- so `rows` is 0 exactly where no row's centre is between p and q
  pub no_row : rows p q ≡ pos 0 → (k : ℤ) → RowBetween p q k → ⊥
  no_row e k r = let a = are-rows p q k r in let z = sym none_is ∙ eq_z-yes (rows p q) (pos 0) e in omega (arith, signed, a.0, a.1, z)

  pub some-row : le_z (row_from q) (row_from p) ≡ false → RowBetween p q (row_from p)
  some-row e = rows_are p q (row_from p) (omega (arith, signed)) (omega (arith, signed, e))

  pub row-none : ((k : ℤ) → RowBetween p q k → ⊥) → rows p q ≡ pos 0
  row-none h = eq_z-true (rows p q) (pos 0) (none_is ∙ by (le_z (row_from q) (row_from p)) refl)
    where
      by : (t : Bool) → le_z (row_from q) (row_from p) ≡ t → t ≡ true
      by true e = refl
      by false e = absurd (h (row_from p) (some-row e))

-- a pixel of 64 units always has a row
pub pixel-row : (p q : ℤ) → pos 64 ≤ℤ (q -ℤ p) → RowBetween p q (row_from p)
unfolding row_from
pixel-row p q h =
    some-row p q (to-le-false (row_from q) (row_from p)
    (omega (arith, signed, h, sub-law q p, shr-law (p +ℤ pos 31) 64 tt, shr-law (q +ℤ pos 31) 64 tt, add-law p (pos 31), add-law q (pos 31))))
