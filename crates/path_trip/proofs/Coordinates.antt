-- Coordinates of sound points, as the code reads them.
use mathlib.Core.Path.{◌≡◌, ◌∙◌}
use Prim.Native.Nat.{ℕ, ◌≤◌}
use native.Mathlib.Omega.{arith}
use lib.IntN.{ℤ, nat_abs}
use mir.Syntax.{w32}
use mir.Val.{to_z, of_z}
use mir.ValLaws.{to_z-of_z}
use Rattle.weak_contour.specs.Limits.{most_result}
use Rattle.weak_contour.specs.Contour.{at}
use Rattle.path_places.specs.Exact.{most_exact}
use Rattle.path_places.proofs.Exact.{mag-le}
use Rattle.path_places.specs.Places.{point_at, halfway_at}
use Rattle.path_places.specs.declared.PixelPoint.{PixelPoint}
use Rattle.path_trip.specs.Path.{Points, place, middle}
use Rattle.path_trip.specs.Trips.{Admitted}

read_back : (z : ℤ) → nat_abs z ≤ most_result → to_z w32 (of_z w32 z) ≡ z
read_back z h = to_z-of_z w32 z (record { sfits = omega (arith, mag-le z) })

module _ (o : Points) (s : Admitted o) where
  pub x-is : (i : ℕ) → to_z w32 (of_z w32 (at o.xs i)) ≡ at o.xs i
  x-is i = read_back _ (s.wide i)

  pub y-is : (i : ℕ) → to_z w32 (of_z w32 (at o.ys i)) ≡ at o.ys i
  y-is i = read_back _ (s.high i)

  pub x-small : (i : ℕ) → nat_abs (to_z w32 (of_z w32 (at o.xs i))) ≤ most_exact
  x-small i = rw (x-is i) (omega (arith, s.wide i))

  pub y-small : (i : ℕ) → nat_abs (to_z w32 (of_z w32 (at o.ys i))) ≤ most_exact
  y-small i = rw (y-is i) (omega (arith, s.high i))

  pub place_is : (i : ℕ) (r : PixelPoint) → r ≡ point_at (to_z w32 (of_z w32 (at o.xs i))) (to_z w32 (of_z w32 (at o.ys i))) → r ≡ place o i
  place_is i r e = e ∙ λ k. point_at (x-is i k) (y-is i k)

  pub middle-is : (i j : ℕ) (r : PixelPoint)
      → r ≡ halfway_at (to_z w32 (of_z w32 (at o.xs i))) (to_z w32 (of_z w32 (at o.ys i))) (to_z w32 (of_z w32 (at o.xs j)))
      (to_z w32 (of_z w32 (at o.ys j))) → r ≡ middle o i j
  middle-is i j r e = e ∙ λ k. halfway_at (x-is i k) (y-is i k) (x-is j k) (y-is j k)
