-- Values at request #109's limits, worked out by hand: which points between two references are too steep, and where long spans take a point.
use mathlib.Core.Path.{◌≡◌, refl}
use mathlib.Core.Bool.{Bool, true, false}
use mathlib.Core.List.{List, [], ◌∷◌, map}
use Prim.Native.Nat.{ℕ}
use lib.IntN.{ℤ, pos, neg_ℤ}
use Rattle.fixed.specs.Point.{rounded, rounded_z, mul_fix, div_fix}
use Rattle.fixed.specs.Divide.{too_steep}
use Rattle.weak_contour.specs.Contour.{interpolated, steep_between}

-- the original v between references of the originals 0 and `span`, whose currents are 0 and `rise`
pub record Row : Type 0 where
  pub v : ℤ
  pub span : ℤ
  pub rise : ℤ
  pub steep : Bool

abbrev row : ℕ → ℕ → ℤ → Bool → Row
row v span rise steep = record { v = pos v; span = pos span; rise = rise; steep = steep }

unfoldable pub rows : List Row
rows =
    -- 2,147,450,880 is an answer, and 2,147,483,648 is too steep, above zero and below
    row 1 2 (pos 65535) false ∷
    row 1 2 (pos 65536) true ∷
    row 1 2 (neg_ℤ (pos 65535)) false ∷
    row 1 2 (neg_ℤ (pos 65536)) true ∷
    row 2 3 (pos 98303) false ∷
    row 1 3 (pos 98304) true ∷
    row 2 3 (neg_ℤ (pos 98304)) true ∷
    row 3 4 (pos 131070) false ∷
    -- a point at a reference's original, or outside, needs no quotient
    row 0 2 (pos 131070) false ∷
    row 2 2 (pos 131070) false ∷
    row 3 2 (pos 131070) false ∷
    row 0 1 (pos 131070) false ∷
    []

pub worked : map (λ (r : Row). steep_between r.v (pos 0) (pos 0) r.span r.rise) rows ≡ map (λ (r : Row). r.steep) rows
unfolding rows steep_between too_steep div_fix rounded_z rounded
worked = refl

-- at a span of 131,070 and a rise of 1 the last place passes the second reference by one unit, and a point at its original does not
pub passes-by-one : interpolated (pos 131069) (pos 0) (pos 0) (pos 131070) (pos 1) ≡ pos 2
unfolding interpolated mul_fix div_fix rounded_z rounded
passes-by-one = refl

pub at-the-second : interpolated (pos 131070) (pos 0) (pos 0) (pos 131070) (pos 1) ≡ pos 1
unfolding interpolated
at-the-second = refl

-- a span of 65,793 with a rise of 128, at which a place comes to lie outside
pub outside : interpolated (pos 65792) (pos 0) (pos 0) (pos 65793) (pos 128) ≡ pos 129
unfolding interpolated mul_fix div_fix rounded_z rounded
outside = refl
