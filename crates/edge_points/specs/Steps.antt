-- What the steps of a segment's walk promise each other.
use Rattle.std.specs.Prelude.{List, [], ◌∷◌, ℕ, zero, suc, ◌+◌, ◌*◌, ◌≤◌, ◌<◌, ℤ}
use Rattle.std.proofs.Math.Option.{Option, some, none}
use Rattle.signed.specs.Range.{Between}
use Rattle.axis.specs.declared.edge.Edge.{Edge}
use Rattle.axis.specs.Limits.{most_segments, most_units}
use Rattle.weak_contour.specs.Limits.{most_points, most_coordinate, most_delta}
use Rattle.weak_contour.specs.Contour.{at, Contour}
use Rattle.edge_points.specs.EdgePoints.{Points}
use Rattle.edge_points.specs.declared.contour.Stretch.{Stretch}

-- ---- contours
-- the contour that was found, or one without points
unfoldable pub stretch_of : Option Contour → Stretch
stretch_of none = record { start = 0; end = 0 }
stretch_of (some k) = record { start = k.start; end = k.end }

-- and back
abbrev pub contour_in : Stretch → Contour
contour_in k = record { start = k.start; end = k.end }

-- the points p and q are on a contour of an outline of n points
pub record Around (k : Stretch) (p q n : ℕ) : Type 0 where
  pub from_low : k.start ≤ p
  pub from_high : p < k.end
  pub to_low : k.start ≤ q
  pub to_high : q < k.end
  pub inside : k.end ≤ n
  pub few : n ≤ most_points

-- ---- how far a current comes
-- a walk meets each point once at most, and moves it by 131,070 units at most: so far it has come at the most after i segments, and after all
abbrev pub reached : ℕ → ℕ
reached i = most_coordinate + i * most_delta

abbrev pub most_reach : ℕ
most_reach = reached most_segments

-- no current has come farther
abbrev pub Reach : ℕ → List ℤ → Type 0
Reach b c = (i : ℕ) → Between b b (at c i)

-- those from a point on that are in front of another have not
abbrev pub Room : List ℤ → ℕ → ℕ → Type 0
Room c from to = (i : ℕ) → from ≤ i → i < to → Between most_reach most_reach (at c i)

-- an edge by which points are moved: its positions are coordinates
pub record Mover (e : Edge) : Type 0 where
  pub pos : Between most_coordinate most_coordinate e.pos
  pub opos : Between most_units most_units e.opos

-- ---- points
-- the points of two lent lists
abbrev pub points : List ℤ → List ℕ → Points
points c t = record { currents = c; touched = t }

-- the n points from p on
unfoldable pub run : ℕ → ℕ → List ℕ
run p zero = []
run p (suc n) = p ∷ run (suc p) n
