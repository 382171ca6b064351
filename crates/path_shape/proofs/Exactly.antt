-- Every number of a path is exact: n / 128 for the whole number n that the definition names, and +0 for 0.
use mathlib.Core.Path.{◌≡◌, refl, ap, subst}
use mathlib.Core.Bool.{Bool, true, false}
use Prim.Native.Nat.{ℕ, suc, ◌+◌, ◌*◌}
use native.Mathlib.Omega.{arith}
use lib.IntN.{ℤ, pos, negsuc, ◌+ℤ◌}
use lib.Ieee.{Float, nan, inf, fin, odd}
use lib.Ieee.Exact.{HasValue}
use Rattle.weak_contour.specs.Contour.{at}
use Rattle.path_places.specs.Exact.{over, Exactly}
use Rattle.path_places.proofs.Exact.{over-exact}
use Rattle.path_trip.specs.Path.{Points}
use Rattle.path_trip.specs.declared.tour.Spot.{Spot}
use Rattle.path_trip.specs.declared.tour.Spot.TheVariants.{Point, Between}
use Rattle.path_trip.specs.Legs.{spot_place}
use Rattle.path_trip.specs.Doubled.{doubled}

-- a value is also twice as much over twice as much
twice : (x : Float) (s : Bool) (a c : ℕ) → HasValue x s a c → HasValue x s (a + a) (2 * c)
twice nan s a c v = v
twice (inf t) s a c v = v
twice (fin t m e) s a c v = (v.0, omega (arith, v.1, ap (λ (n : ℕ). n + n) v.1))

-- x / 64 is 2 · x / 128
by-128 : (z : ℤ) → Exactly (over z 6) (z +ℤ z) 128
by-128 (pos n) = twice (over (pos n) 6) false n 64 (over-exact (pos n) 6)
by-128 (negsuc n) =
    subst (λ (k : ℕ). HasValue (over (negsuc n) 6) true k 128) (omega arith) (twice (over (negsuc n) 6) true (suc n) 64 (over-exact (negsuc n) 6))

-- a place of a path
pub exact : (o : Points) (s : Spot) → Exactly (spot_place o s).x (doubled o.xs s) 128 × Exactly (spot_place o s).y (doubled o.ys s) 128
exact o (Point i) = (by-128 (at o.xs i), by-128 (at o.ys i))
exact o (Between i j) = (over-exact (at o.xs i +ℤ at o.xs j) 7, over-exact (at o.ys i +ℤ at o.ys j) 7)

-- zero has no sign
pub zero-plus : (k : ℕ) → over (pos 0) k ≡ fin false 0 (pos 0)
unfolding over odd
zero-plus k = refl
