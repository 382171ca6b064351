-- The places that a contour goes by: what holds of the places of spots and of curves at sixteenths holds of all; and how many there are. Assumes nothing.
use mathlib.Core.Path.{◌≡◌, refl, ap}
use mathlib.Core.List.{List, [], ◌∷◌, ◌++◌}
use Prim.Native.Nat.{ℕ, suc, ◌*◌, ◌≤◌, ◌<◌}
use native.Mathlib.Omega.{arith}
use lib.ListN.{length, length-append}
use Rattle.path_trip.specs.Path.{Points, from}
use Rattle.path_trip.specs.declared.tour.Spot.{Spot}
use Rattle.path_trip.specs.declared.tour.Spot.TheVariants.{Point}
use Rattle.path_trip.specs.Legs.{Leg, line, curve}
use Rattle.path_trip.specs.Trips.{Inside}
use Rattle.path_trip.proofs.Walks.{length_from}
use Rattle.shown.specs.Shown.{Place, spot_at, curve_at, curve_by, places}
use Rattle.shown.proofs.Tours.{Below, LegsBelow, below-from}

-- ---- places of two outlines, or of one, side by side
pub data Alike (R : Place → Place → Type 0) : List Place → List Place → Type 0 where
  none : Alike R [] []
  more : {p q : Place} {ps qs : List Place} → R p q → Alike R ps qs → Alike R (p ∷ ps) (q ∷ qs)

alike-append : {R : Place → Place → Type 0} {ps qs ps' qs' : List Place} → Alike R ps qs → Alike R ps' qs' → Alike R (ps ++ ps') (qs ++ qs')
alike-append none k = k
alike-append (more r h) k = more r (alike-append h k)

-- what holds of the places of spots, and of curves at sixteenths
pub record Placed (half m : ℕ) (o o' : Points) (n : ℕ) (R : Place → Place → Type 0) : Type 0 where
  pub spots : (s : Spot) → Inside n s → R (spot_at half m o s) (spot_at half m o' s)
  pub curves : (s q : Spot) (i k : ℕ) → Inside n s → i < n → Inside n q → k ≤ 16 → R (curve_at half m o s i q k) (curve_at half m o' s i q k)

module _ (half m : ℕ) (o o' : Points) (n : ℕ) (R : Place → Place → Type 0) (h : Placed half m o o' n R) where
  curve-alike : (s q : Spot) (i : ℕ) → Inside n s → i < n → Inside n q → (ks : List ℕ) → Below 17 ks
      → Alike R (curve_by half m o s i q ks) (curve_by half m o' s i q ks)
  unfolding curve_by
  curve-alike s q i a b c [] k = none
  curve-alike s q i a b c (k ∷ ks) l = more (h.curves s q i k a b c (omega (arith, l.0))) (curve-alike s q i a b c ks l.1)

  -- holds of all places
  pub places-alike : (s : Spot) (ls : List Leg) → Inside n s → LegsBelow n ls → Alike R (places half m o s ls) (places half m o' s ls)
  unfolding places
  places-alike s [] a b = none
  places-alike s (line i ∷ ls) a b = more (h.spots (Point i) b.0) (places-alike (Point i) ls b.0 b.1)
  places-alike s (curve i q ∷ ls) a b =
      alike-append (curve-alike s q i a b.0 b.1 (from 1 16) (below-from 17 1 16 (omega arith))) (places-alike q ls b.1 b.2)

-- ---- how many places
curve-few : (half m : ℕ) (o : Points) (s q : Spot) (i : ℕ) (ks : List ℕ) → length (curve_by half m o s i q ks) ≡ length ks
unfolding curve_by
curve-few half m o s q i [] = refl
curve-few half m o s q i (k ∷ ks) = ap suc (curve-few half m o s q i ks)

pub places-few : (half m : ℕ) (o : Points) (s : Spot) (ls : List Leg) → length (places half m o s ls) ≤ 16 * length ls
unfolding places
places-few half m o s [] = omega arith
places-few half m o s (line i ∷ ls) = omega (arith, places-few half m o (Point i) ls)
places-few half m o s (curve i q ∷ ls) =
    omega (
      arith,
      length-append (curve_by half m o s i q (from 1 16)) (places half m o q ls),
      curve-few half m o s q i (from 1 16),
      length_from 1 16,
      places-few half m o q ls,
    )
