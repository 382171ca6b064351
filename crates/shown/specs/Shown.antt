-- What the display shows of an outline: which pixels are black, how many, and their Euler number.
-- Places are whole numbers, 512 to a unit and 32,768 to a pixel, from the left lower corner of a field of pixels on, which stands `half` units left of and below 0.
use Rattle.std.specs.Prelude.{Bool, not, ◌&&◌, List, [], ◌∷◌, ◌++◌, ℕ, suc, ◌+◌, ◌-◌, ◌*◌, ltb, leb, eqb, ℤ, pos, nat_abs, ◌+ℤ◌, ◌-ℤ◌, ◌*ℤ◌}
use Rattle.shown_rows.specs.Turns.{total, bit, corner, sides, pixel}
pub use Rattle.shown_rows.specs.Turns.{before}
use Rattle.shown_rows.specs.Crossing.{centre}
use Rattle.shown_rows.specs.Chains.{place_at}
use Rattle.path_trip.specs.Path.{Points, from}
use Rattle.path_trip.specs.declared.tour.Spot.{Spot}
use Rattle.path_trip.specs.declared.tour.Spot.TheVariants.{Point}
use Rattle.path_trip.specs.Legs.{Leg, line, curve, Tour, tour_of, legs_of}
use Rattle.path_trip.specs.Doubled.{doubled}

pub record Place : Type 0 where
  pub x : ℕ
  pub y : ℕ

-- a line of an outline, from its start to its end
pub record Side : Type 0 where
  pub start : Place
  pub end : Place

abbrev pub side : Place → Place → Side
side p q = record { start = p; end = q }

-- ---- the lines of an outline
-- half 512ths: twice a coordinate in units, magnified, from the field's corner on
abbrev pub halves : ℕ → ℕ → List ℤ → Spot → ℕ
halves half m l s = nat_abs (pos m *ℤ doubled l s +ℤ pos (2 * half))

abbrev pub spot_at : ℕ → ℕ → Points → Spot → Place
spot_at half m o s = record { x = 256 * halves half m o.xs s; y = 256 * halves half m o.ys s }

-- the place at k / 16 of the curve from s by the point i to q
abbrev pub curve_at : ℕ → ℕ → Points → Spot → ℕ → Spot → ℕ → Place
curve_at half m o s i q k = record {
  x = place_at (halves half m o.xs s) (halves half m o.xs (Point i)) (halves half m o.xs q) k;
  y = place_at (halves half m o.ys s) (halves half m o.ys (Point i)) (halves half m o.ys q) k;
}

unfoldable pub curve_by : ℕ → ℕ → Points → Spot → ℕ → Spot → List ℕ → List Place
curve_by half m o s i q [] = []
curve_by half m o s i q (k ∷ ks) = curve_at half m o s i q k ∷ curve_by half m o s i q ks

-- the places that a contour goes by, from the place s on
unfoldable pub places : ℕ → ℕ → Points → Spot → List Leg → List Place
places half m o s [] = []
places half m o s (line i ∷ ls) = spot_at half m o (Point i) ∷ places half m o (Point i) ls
places half m o s (curve i q ∷ ls) = curve_by half m o s i q (from 1 16) ++ places half m o q ls

-- the lines from p by these places, and back to the start
unfoldable pub lines_by : Place → Place → List Place → List Side
lines_by start p [] = side p start ∷ []
lines_by start p (q ∷ qs) = side p q ∷ lines_by start q qs

abbrev pub contour_lines : ℕ → ℕ → Points → Tour → List Side
contour_lines half m o t = lines_by (spot_at half m o t.start) (spot_at half m o t.start) (places half m o t.start (legs_of o t))

unfoldable pub lines_of : ℕ → ℕ → Points → ℕ → List ℕ → List Side
lines_of half m o a [] = []
lines_of half m o a (e ∷ es) = contour_lines half m o (tour_of o a e) ++ lines_of half m o (suc e) es

-- ---- black pixels
-- the line from (lx, ly) up to (hx, hy) crosses the row with its centre at y, at or left of x
abbrev pub crosses : Place → Place → ℕ → ℕ → Bool
crosses l h x y = leb l.y y && (ltb y h.y && leb (l.x * (h.y - y) + h.x * (y - l.y)) (x * (h.y - l.y)))

unfoldable pub ups : List Side → ℕ → ℕ → ℕ
ups [] x y = 0
ups (s ∷ ss) x y = bit (crosses s.start s.end x y) + ups ss x y

unfoldable pub downs : List Side → ℕ → ℕ → ℕ
downs [] x y = 0
downs (s ∷ ss) x y = bit (crosses s.end s.start x y) + downs ss x y

-- the pixel of column i and row j: the path winds around its centre
abbrev pub black : List Side → ℕ → ℕ → Bool
black ss i j = not (eqb (ups ss (centre i) (centre j)) (downs ss (centre i) (centre j)))

-- ---- the counts
-- f of the four pixels around each corner, in n columns and rows of corners: the pixel left below the corner (i, j) is that of i - 1 and j - 1; left of the field and below it is white
unfoldable pub around : (Bool → Bool → Bool → Bool → ℕ) → (ℕ → ℕ → Bool) → ℕ → ℕ
around f b n = total (λ j. total (λ i. f (before (λ k. before (b k) j) i) (before (b i) j) (before (λ k. b k j) i) (b i j)) n) n

-- black pixels, and their Euler number: corners less sides plus pixels
abbrev pub black_count : (ℕ → ℕ → Bool) → ℕ → ℕ
black_count b n = around pixel b n

abbrev pub euler : (ℕ → ℕ → Bool) → ℕ → ℤ
euler b n = pos (around corner b n + around pixel b n) -ℤ pos (around sides b n)
