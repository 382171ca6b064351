-- Where an original comes to by two references, case by case; the scale between them; and that the sums, the quotient and the product fit.
use mathlib.Core.Path.{◌≡◌, refl, ◌∙◌}
use mathlib.Core.Bool.{Bool, true, false}
use mathlib.Core.List.{List}
use mathlib.Core.Logic.{⊎_elim}
use Prim.Native.Nat.{ℕ, ◌+◌, ◌≤◌, ◌<◌}
use native.Mathlib.Omega.{arith}
use lib.IntN.{ℤ, pos, nat_abs, ◌+ℤ◌, ◌-ℤ◌}
use lib.Signed.{lt_z, ◌≤ℤ◌}
use Rattle.signed.specs.Parts.{up, dn}
use Rattle.signed.proofs.Signed.{
  nat_abs-is,
  sub-law,
  one-zero,
  to-lt-true,
  to-le-true,
  to-le-false,
  to-≡,
  lt-or-le,
  same,
  signed,
  eq_z-yes,
  eq_z-no,
  eq_z-true,
  eq_z-apart,
}
use Rattle.fixed.specs.Point.{mul_fix, div_fix}
use Rattle.fixed.specs.Divide.{too_steep}
use Rattle.fixed.proofs.Interpolation.{AlongLine, along-line, Fitting, fitting}
use Rattle.signed.specs.Equality.{eq_z}
use Rattle.weak_contour.specs.Contour.{at, refs, first_of, second_of, interpolated, between_at, steep_between, steep_by}
use Rattle.weak_contour.specs.Steps.{slope, Ordered, span_of, SpanHolds, spanned_at}

-- ---- the scale
module _ (v1 u1 v2 u2 : ℤ) where
  -- at equal currents
  pub slope-level : u1 ≡ u2 → slope v1 u1 v2 u2 ≡ pos 0
  unfolding slope
  slope-level e = rw (eq_z-yes u1 u2 e)

  -- at equal originals
  pub slope-upright : (u1 ≡ u2 → ⊥) → v1 ≡ v2 → slope v1 u1 v2 u2 ≡ pos 0
  unfolding slope
  slope-upright n e = rw (eq_z-no u1 u2 n, eq_z-yes v1 v2 e)

  -- too steep
  pub slope-steep : (u1 ≡ u2 → ⊥) → (v1 ≡ v2 → ⊥) → too_steep (u2 -ℤ u1) (v2 -ℤ v1) ≡ true → slope v1 u1 v2 u2 ≡ pos 0
  unfolding slope
  slope-steep n m e = rw (eq_z-no u1 u2 n, eq_z-no v1 v2 m, e)

  -- otherwise
  pub slope-is : (u1 ≡ u2 → ⊥) → (v1 ≡ v2 → ⊥) → too_steep (u2 -ℤ u1) (v2 -ℤ v1) ≡ false → slope v1 u1 v2 u2 ≡ div_fix (u2 -ℤ u1) (v2 -ℤ v1)
  unfolding slope
  slope-is n m e = rw (eq_z-no u1 u2 n, eq_z-no v1 v2 m, e)

  -- references in their order whose originals differ are a span apart
  pub apart : v1 ≤ℤ v2 → (v1 ≡ v2 → ⊥) → up v1 + dn v2 < up v2 + dn v1
  apart h n = ⊎_elim (λ l. l) (λ g. absurd (n (to-≡ v1 v2 (omega (arith, signed))))) (lt-or-le (up v1 + dn v2) (up v2 + dn v1))

-- ---- the cases
module _ (v v1 u1 v2 u2 : ℤ) where
  -- at or below the first original
  pub interpolated-low : up v + dn v1 ≤ up v1 + dn v → interpolated v v1 u1 v2 u2 ≡ v +ℤ (u1 -ℤ v1)
  unfolding interpolated
  interpolated-low h = rw (to-le-true v v1 h)

  -- at or above the second
  pub interpolated-high : up v1 + dn v < up v + dn v1 → up v2 + dn v ≤ up v + dn v2 → interpolated v v1 u1 v2 u2 ≡ v +ℤ (u2 -ℤ v2)
  unfolding interpolated
  interpolated-high h k = rw (to-le-false v v1 h, to-le-true v2 v k)

  module _ (low : up v1 + dn v < up v + dn v1) (high : up v + dn v2 < up v2 + dn v) where
    -- between, where the currents are equal
    pub interpolated-level : u1 ≡ u2 → interpolated v v1 u1 v2 u2 ≡ u1
    unfolding interpolated
    interpolated-level e = rw (to-le-false v v1 low, to-le-false v2 v high, eq_z-yes u1 u2 e)

    -- between, where they differ
    pub interpolated-between : (u1 ≡ u2 → ⊥) → interpolated v v1 u1 v2 u2 ≡ u1 +ℤ mul_fix (v -ℤ v1) (div_fix (u2 -ℤ u1) (v2 -ℤ v1))
    unfolding interpolated
    interpolated-between n = rw (to-le-false v v1 low, to-le-false v2 v high, eq_z-no u1 u2 n)

    -- what the arithmetic owes there, also where the currents are equal
    pub along-law : Ordered v1 u1 v2 u2 → AlongLine (v -ℤ v1) (u2 -ℤ u1) (v2 -ℤ v1) (mul_fix (v -ℤ v1) (div_fix (u2 -ℤ u1) (v2 -ℤ v1)))
    along-law h =
        along-line (v -ℤ v1) (u2 -ℤ u1) (v2 -ℤ v1) (omega (arith, sub-law v v1)) (omega (arith, sub-law v v1, sub-law v2 v1))
        (omega (arith, sub-law v2 v1, h.original1, h.original2))

    -- and that it fits, where it is not too steep
    pub fitting-law : Ordered v1 u1 v2 u2 → too_steep (u2 -ℤ u1) (v2 -ℤ v1) ≡ false → Fitting (v -ℤ v1) (u2 -ℤ u1) (v2 -ℤ v1)
    fitting-law h e =
        fitting (v -ℤ v1) (u2 -ℤ u1) (v2 -ℤ v1) (omega (arith, sub-law v v1)) (omega (arith, sub-law v v1, sub-law v2 v1))
        (omega (arith, sub-law v2 v1, h.original1, h.original2))
        (omega (arith, sub-law u2 u1, h.current1, h.current2)) e

    -- the quotient of an original that is not steep
    pub gentle-law : steep_between v v1 u1 v2 u2 ≡ false → too_steep (u2 -ℤ u1) (v2 -ℤ v1) ≡ false
    unfolding steep_between
    gentle-law e = rw (to-lt-true v1 v low, to-lt-true v v2 high) at e

    -- so that the two cases are one
    pub interpolated-is : Ordered v1 u1 v2 u2 → interpolated v v1 u1 v2 u2 ≡ u1 +ℤ mul_fix (v -ℤ v1) (div_fix (u2 -ℤ u1) (v2 -ℤ v1))
    interpolated-is h = by (eq_z u1 u2) refl
      where
        by : (b : Bool) → eq_z u1 u2 ≡ b → interpolated v v1 u1 v2 u2 ≡ u1 +ℤ mul_fix (v -ℤ v1) (div_fix (u2 -ℤ u1) (v2 -ℤ v1))
        by true e =
            let q = eq_z-true u1 u2 e in
            let f = along-law h in
            interpolated-level q ∙ same (omega (arith, signed, sub-law u2 u1, one-zero (u2 -ℤ u1), f.side_up, f.side_dn))
        by false e = interpolated-between (λ q. eq_z-apart u1 u2 e q)

-- originals that differ are a divisor
pub span-some : (v1 v2 : ℤ) → up v1 + dn v2 < up v2 + dn v1 → 0 < nat_abs (v2 -ℤ v1)
span-some v1 v2 k = omega (arith, sub-law v2 v1, nat_abs-is (v2 -ℤ v1))

-- ---- the references of a point in their order
module _ (o c : List ℤ) (p q : ℕ) where
  -- the one behind is first where its original is smaller
  pub between-less : lt_z (at o q) (at o p) ≡ true → (i : ℕ) → spanned_at o (span_of (at o q) (at c q) (at o p) (at c p)) i ≡ between_at o c (refs p q) i
  unfolding between_at spanned_at first_of second_of
  between-less e i = rw e

  -- and second where it is not
  pub between_more : lt_z (at o q) (at o p) ≡ false → (i : ℕ) → spanned_at o (span_of (at o p) (at c p) (at o q) (at c q)) i ≡ between_at o c (refs p q) i
  unfolding between_at spanned_at first_of second_of
  between_more e i = rw e

  -- and so it is with what is too steep
  pub steep-less : lt_z (at o q) (at o p) ≡ true → (i : ℕ) → steep_between (at o i) (at o q) (at c q) (at o p) (at c p) ≡ steep_by o c (refs p q) i
  unfolding steep_by first_of second_of
  steep-less e i = rw e

  pub steep-more : lt_z (at o q) (at o p) ≡ false → (i : ℕ) → steep_between (at o i) (at o p) (at c p) (at o q) (at c q) ≡ steep_by o c (refs p q) i
  unfolding steep_by first_of second_of
  steep-more e i = rw e

-- references are ordered where equal ones are
pub ordered-as : {v1 w1 u1 x1 v2 w2 u2 x2 : ℤ} → v1 ≡ w1 → u1 ≡ x1 → v2 ≡ w2 → u2 ≡ x2 → Ordered w1 x1 w2 x2 → Ordered v1 u1 v2 u2
ordered-as a b c d h = rw (a, b, c, d) h

-- a span that `span_of` makes holds
pub span-holds : (v1 u1 v2 u2 : ℤ) → Ordered v1 u1 v2 u2 → SpanHolds (span_of v1 u1 v2 u2)
span-holds v1 u1 v2 u2 h = record { ordered = h; scaled = refl }
