-- The order of points behind edge points and weak points: what is needed of edges and points before, and what is gained at the end. An outline is its points' originals o,
-- currents c and touch marks t, and the ends es of its contours.
use Rattle.std.specs.Prelude.{None, Some}
use Rattle.std.specs.Prelude.{◌≡◌, Bool, true, false, cond, ◌&&◌, List, ◌⊎◌, ℕ, zero, suc, ◌<◌, ltb, length, ℤ, ◌≤ℤ◌, ◌<ℤ◌}
use Rattle.std.proofs.Math.Option.{Option, some, none}
use Rattle.axis.specs.declared.edge.Axis.{Axis}
use Rattle.axis.specs.Link.{Link}
use Rattle.axis.specs.declared.segment.Segment.{Segment}
use Rattle.axis.specs.declared.segment.Segments.{Segments}
use Rattle.axis.specs.Edge.{edge_at}
use Rattle.axis.specs.Link.{is_linked}
use Rattle.axis.specs.Segment.{segment_at}
use Rattle.axis.specs.Ring.{times}
use Rattle.gaps.specs.Gaps.{is_done, IsPair, or_else}
use Rattle.weak_contour.specs.Contour.{at, Contour, is_touched, References, references, first_of, second_of}
use Rattle.weak.specs.Weak.{contour_of}
use Rattle.weak.specs.Faithful.{KeepsOrder, Demand3}
use Rattle.edge_points.specs.EdgePoints.{walked, Points, moves}

-- ---- edges
-- done edges are in order: of two that were at different positions neither has passed the other
pub record EdgesInOrder (axis : Axis) : Type 0 where
  pub at : (i j : ℕ) → i < axis.len → j < axis.len → is_done axis i ≡ true → is_done axis j ≡ true → (edge_at axis i).opos <ℤ (edge_at axis j).opos
      → (edge_at axis i).pos ≤ℤ (edge_at axis j).pos

-- they are, and none of them has met another that it was apart from
pub record EdgesApart (axis : Axis) : Type 0 where
  pub at : (i j : ℕ) → i < axis.len → j < axis.len → is_done axis i ≡ true → is_done axis j ≡ true → (edge_at axis i).opos <ℤ (edge_at axis j).opos
      → (edge_at axis i).pos <ℤ (edge_at axis j).pos

-- no two neighbouring done edges are turned: none is below the done one before it in the table
pub record NoneTurned (axis : Axis) : Type 0 where
  pub at : (i j : ℕ) → IsPair false axis i j → (edge_at axis i).pos ≤ℤ (edge_at axis j).pos

-- done edges of one original position are at one position
pub record OnePosition (axis : Axis) : Type 0 where
  pub at : (i j : ℕ) → i < axis.len → j < axis.len → is_done axis i ≡ true → is_done axis j ≡ true → (edge_at axis i).opos ≡ (edge_at axis j).opos
      → (edge_at axis i).pos ≡ (edge_at axis j).pos

-- ---- which edge moves a point
-- the walk of a segment on a contour meets the point p
unfoldable pub meets : Option Contour → Segment → ℕ → Bool
meets none g p = false
meets (some k) g p = ltb 0 (times p (walked k g.first g.last))

-- the edge by which a segment moves the point p: its own, where that moves points and the walk meets p
unfoldable pub mover_of : Bool → Axis → List ℕ → Segment → Link → ℕ → Link
mover_of alone axis es g None p = None
mover_of alone axis es g (Some k) p = cond (moves alone (edge_at axis k) && meets (contour_of 0 es g.first) g p) (Some k) None

-- the edge by which segment i of the table moves it
unfoldable pub mover_at : Bool → Axis → Segments → List ℕ → ℕ → ℕ → Link
mover_at alone axis t es p i = mover_of alone axis es (segment_at t i) (segment_at t i).edge p

-- the edge by which the first n segments move it last
unfoldable pub last_mover : Bool → Axis → Segments → List ℕ → ℕ → ℕ → Link
last_mover alone axis t es p zero = None
last_mover alone axis t es p (suc n) = or_else (mover_at alone axis t es p n) (last_mover alone axis t es p n)

-- ---- before edge points
-- what is needed of segments and points, beside edges in order
pub record Ready (snap alone : Bool) (axis : Axis) (t : Segments) (o : List ℤ) (s : Points) (es : List ℕ) : Type 0 where
  -- points of done edges alone are moved, or every edge is done
  pub done : alone ≡ false → (k : ℕ) → k < axis.len → is_done axis k ≡ true
  -- every point's current is its original
  pub still : s.currents ≡ o
  -- no point is touched
  pub untouched : (p : ℕ) → is_touched s.touched p ≡ false
  -- a moved point's original is the original position of the edge that moves it last
  pub on_edge : (p k : ℕ) → p < length o → last_mover alone axis t es p t.len ≡ Some k → at o p ≡ (edge_at axis k).opos
  -- without snap no point is moved by two segments
  pub once : snap ≡ false → (p i j : ℕ) → i < j → j < t.len → is_linked (mover_at alone axis t es p i) ≡ true → is_linked (mover_at alone axis t es p j) ≡ true → ⊥

-- ---- behind edge points
-- the point p was where a done edge was, and is where that is
pub record PlacedBy (axis : Axis) (o c : List ℤ) (p : ℕ) : Type 0 where
  pub edge : ℕ
  pub there : edge < axis.len
  pub done : is_done axis edge ≡ true
  pub was : at o p ≡ (edge_at axis edge).opos
  pub is : at c p ≡ (edge_at axis edge).pos

-- every touched point is placed so, and every other is where it was
pub record PlacedByEdges (axis : Axis) (o c : List ℤ) (t : List ℕ) : Type 0 where
  pub touched : (p : ℕ) → is_touched t p ≡ true → PlacedBy axis o c p
  pub others : (p : ℕ) → is_touched t p ≡ false → at c p ≡ at o p

-- ---- behind weak points
-- the point i is untouched, and p is a neighbouring touched point of its contour: one of its two references, or the only touched point
pub record Beside (t es : List ℕ) (i p : ℕ) : Type 0 where
  pub contour : Contour
  pub on : contour_of 0 es i ≡ some contour
  pub untouched : is_touched t i ≡ false
  pub by : References
  pub nearest : references t contour i ≡ some by
  pub is : (p ≡ by.before) ⊎ (p ≡ by.behind)

-- the exception besides request #109's: two references have equal originals and different currents, the one before the higher
pub record Parted (o c : List ℤ) (r : References) : Type 0 where
  pub equal : at o r.before ≡ at o r.behind
  pub higher : at c r.behind <ℤ at c r.before

-- points are in order at the end, where d are their currents
pub record PointsInOrder (o c : List ℤ) (t es : List ℕ) (d : List ℤ) : Type 0 where
  -- of two touched points, of one contour or of two, the one of lower original does not end higher
  pub touched : (p q : ℕ) → is_touched t p ≡ true → is_touched t q ≡ true → at o p <ℤ at o q → at d p ≤ℤ at d q
  -- an untouched point of lower original than a neighbouring touched one does not end higher, but for the exceptions
  pub below : (i p : ℕ) (b : Beside t es i p) → at o i <ℤ at o p
      → Parted o c b.by ⊎ KeepsOrder (at o i) (at o p) (at o (first_of o b.by)) (at o (second_of o b.by)) (at d i) (at d p)
  -- one of higher original does not end lower, but for the first of them
  pub above : (i p : ℕ) (b : Beside t es i p) → at o p <ℤ at o i → Parted o c b.by ⊎ (at d p ≤ℤ at d i)

-- what is gained where edge points leaves c and t, and weak points behind it leaves d
pub record Gained (axis : Axis) (o c : List ℤ) (t es : List ℕ) (d : List ℤ) : Type 0 where
  pub demand_3 : Demand3 o c t es d
  -- every touched point was where a done edge was, and ends where that is
  pub placed : (p : ℕ) → is_touched t p ≡ true → PlacedBy axis o d p
  pub in_order : PointsInOrder o c t es d

-- and where edges are apart too: no touched point has met another that it was apart from, and an untouched one on this side of a neighbour ends on this side of every touched point
-- that the neighbour is on this side of, but for the one exception
pub record PointsApart (o c : List ℤ) (t es : List ℕ) (d : List ℤ) : Type 0 where
  pub touched : (p q : ℕ) → is_touched t p ≡ true → is_touched t q ≡ true → at o p <ℤ at o q → at d p <ℤ at d q
  pub below : (i p q : ℕ) (b : Beside t es i p) → is_touched t q ≡ true → at o i <ℤ at o p → at o p <ℤ at o q → Parted o c b.by ⊎ (at d i ≤ℤ at d q)
  pub above : (i p q : ℕ) (b : Beside t es i p) → is_touched t q ≡ true → at o q <ℤ at o p → at o p <ℤ at o i → Parted o c b.by ⊎ (at d q <ℤ at d i)
