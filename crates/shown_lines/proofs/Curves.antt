-- The sixteen lines of a curve: where its three points are on one side of a height they do not cross it, and they are those that a contour goes by. Assumes
-- nothing.
use mathlib.Core.Path.{◌≡◌, refl, sym, ap, ◌∙◌}
use mathlib.Core.List.{List, [], ◌∷◌, ◌++◌}
use Prim.Native.Nat.{ℕ, zero, suc, ◌+◌, ◌-◌, ◌*◌, ◌≤◌}
use native.Mathlib.Omega.{arith}
use Rattle.path_trip.specs.Path.{Points, from}
use Rattle.path_trip.specs.declared.tour.Spot.{Spot}
use Rattle.path_trip.specs.declared.tour.Spot.TheVariants.{Point}
use Rattle.shown_rows.specs.Chains.{place_at}
use Rattle.shown_rows.proofs.Closed as Closed
use Rattle.shown.specs.Shown.{Place, Side, side, spot_at, curve_by, lines_by}
use Rattle.shown_lines.specs.declared.place.Halves.{Halves}
use Rattle.shown_lines.specs.Lines.{field_half, halves_at, placed, place_on, curve_sides, OneSide, none_above, all_above, Stays, below, above}
use Rattle.shown_lines.proofs.Winding.{Still, still-none, still-more}

-- ---- on one side of a height
module _ (p c q : Halves) (y : ℕ) (o : OneSide p.y c.y q.y y) where
  one-stays : (k : ℕ) → suc k ≤ 16 → (o : OneSide p.y c.y q.y y) → Stays (place_at p.y c.y q.y k) (place_at p.y c.y q.y (suc k)) y
  one-stays k h (none_above a b d) =
      below (Closed.all-below p.y c.y q.y k y (omega arith) a b d) (Closed.all-below p.y c.y q.y (suc k) y h a b d)
  one-stays k h (all_above a b d) =
      above (Closed.all_above p.y c.y q.y k y (omega arith) a b d) (Closed.all_above p.y c.y q.y (suc k) y h a b d)

  pub still-curve : (k n : ℕ) → k + n ≤ 16 → Still (curve_sides p c q k n) y
  unfolding curve_sides
  still-curve k zero h = still-none y
  still-curve k (suc n) h =
      still-more (place_on p c q k) (place_on p c q (suc k)) y (curve_sides p c q (suc k) n) (one-stays k (omega arith) o) (still-curve (suc k) n (omega arith))

-- ---- one line more
pub curve-one : (p c q : Halves) (k n m : ℕ) → n ≡ suc m → curve_sides p c q k n ≡ side (place_on p c q k) (place_on p c q (k + 1)) ∷ curve_sides p c q (k + 1) m
unfolding curve_sides
curve-one p c q k n m e = let s : suc k ≡ k + 1 = omega arith in
    ap (curve_sides p c q k) e ∙ λ i. side (place_on p c q k) (place_on p c q (s i)) ∷ curve_sides p c q (s i) m

pub curve-none : (p c q : Halves) (k : ℕ) → curve_sides p c q k 0 ≡ []
unfolding curve_sides
curve-none p c q k = refl

-- ---- its ends
pub starts-there : (p c q : Halves) → place_on p c q 0 ≡ placed (256 * p.x) (256 * p.y)
starts-there p c q =
    let f : place_at p.x c.x q.x 0 ≡ 256 * p.x = omega arith in
    let g : place_at p.y c.y q.y 0 ≡ 256 * p.y = omega arith in
    λ i. placed (f i) (g i)

pub ends_there : (p c q : Halves) → place_on p c q 16 ≡ placed (256 * q.x) (256 * q.y)
ends_there p c q =
    let f : place_at p.x c.x q.x 16 ≡ 256 * q.x = omega arith in
    let g : place_at p.y c.y q.y 16 ≡ 256 * q.y = omega arith in
    λ i. placed (f i) (g i)

-- ---- the curve of a contour
module _ (m : ℕ) (o : Points) (s : Spot) (c : ℕ) (e : Spot) where
  abbrev on : ℕ → Place
  on k = place_on (halves_at o m s) (halves_at o m (Point c)) (halves_at o m e) k

  abbrev cut : ℕ → ℕ → List Side
  cut k n = curve_sides (halves_at o m s) (halves_at o m (Point c)) (halves_at o m e) k n

  lines_from : (start : Place) (ps : List Place) (k n : ℕ)
      → lines_by start (on k) (curve_by field_half m o s c e (from (suc k) n) ++ ps) ≡ cut k n ++ lines_by start (on (k + n)) ps
  unfolding lines_by curve_by from curve_sides
  lines_from start ps k zero = let z : k ≡ k + 0 = omega arith in ap (λ (j : ℕ). lines_by start (on j) ps) z
  lines_from start ps k (suc n) =
      let z : suc k + n ≡ k + suc n = omega arith in
      ap (λ (l : List Side). side (on k) (on (suc k)) ∷ l) (lines_from start ps (suc k) n ∙ ap (λ (j : ℕ). cut (suc k) n ++ lines_by start (on j) ps) z)

  pub curve-lines : (start : Place) (ps : List Place)
      → lines_by start (spot_at field_half m o s) (curve_by field_half m o s c e (from 1 16) ++ ps) ≡ cut 0 16 ++ lines_by start (spot_at field_half m o e) ps
  curve-lines start ps =
      ap (λ (p : Place). lines_by start p (curve_by field_half m o s c e (from 1 16) ++ ps))
      (sym (starts-there (halves_at o m s) (halves_at o m (Point c)) (halves_at o m e)))
      ∙ lines_from start ps 0 16
      ∙ ap (λ (p : Place). cut 0 16 ++ lines_by start p ps) (ends_there (halves_at o m s) (halves_at o m (Point c)) (halves_at o m e))
