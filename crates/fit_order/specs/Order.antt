-- The order of touched points behind edge points and strong points: what is needed of edges and points before, and what is gained. Every edge counts, done or not, since strong points lean on
-- all of them. An outline is its points' font positions f, originals o, currents and touch marks, and the ends es of its contours.
use Rattle.std.specs.Prelude.{Some}
use Rattle.std.specs.Prelude.{◌≡◌, Bool, true, false, List, ℕ, ◌≤◌, ◌<◌, length, ℤ, pos, ◌≤ℤ◌, ◌<ℤ◌}
use Rattle.axis.specs.declared.edge.Axis.{Axis}
use Rattle.axis.specs.declared.segment.Segments.{Segments}
use Rattle.axis.specs.Edge.{edge_at}
use Rattle.axis.specs.Link.{is_linked}
use Rattle.fixed.specs.Point.{mul_fix}
use Rattle.weak_contour.specs.Contour.{at, is_touched}
use Rattle.edge_points.specs.EdgePoints.{Points}
use Rattle.edge_points_order.specs.Order.{mover_at, last_mover}
use Rattle.strong.specs.Strong.{fpos_at}

-- ---- edges
-- The theorem asks that font positions and positions do not fall in the table (`Rising`, strong/specs/Steps.antt). Said by original positions, all edges are in order: font positions do not fall in
-- the table, of two edges that were at different positions neither has passed the other, and two that were at one position are at one. By one scale the first follows (`all-rise`, proofs/Scales.antt)
pub record AllInOrder (axis : Axis) : Type 0 where
  pub fonts : (i j : ℕ) → i ≤ j → j < axis.len → fpos_at axis i ≤ℤ fpos_at axis j
  pub apart : (i j : ℕ) → i < axis.len → j < axis.len → (edge_at axis i).opos <ℤ (edge_at axis j).opos → (edge_at axis i).pos ≤ℤ (edge_at axis j).pos
  pub level : (i j : ℕ) → i < axis.len → j < axis.len → (edge_at axis i).opos ≡ (edge_at axis j).opos → (edge_at axis i).pos ≡ (edge_at axis j).pos

-- ---- one scale
-- originals of points and original positions of edges are their font positions by one scale, which is not negative
pub record Scaled (scale : ℤ) (axis : Axis) (f o : List ℤ) : Type 0 where
  pub positive : pos 0 ≤ℤ scale
  pub points : (p : ℕ) → p < length f → at o p ≡ mul_fix (at f p) scale
  pub edges : (i : ℕ) → i < axis.len → (edge_at axis i).opos ≡ mul_fix (fpos_at axis i) scale

-- ---- before edge points
-- what is needed of segments and points; whether done edges alone move points or all do decides nothing
pub record Before (snap alone : Bool) (axis : Axis) (t : Segments) (o : List ℤ) (s : Points) (es : List ℕ) : Type 0 where
  -- no point is touched
  pub untouched : (p : ℕ) → is_touched s.touched p ≡ false
  -- a moved point's original is the original position of the edge that moves it last
  pub on_edge : (p k : ℕ) → p < length s.currents → last_mover alone axis t es p t.len ≡ Some k → at o p ≡ (edge_at axis k).opos
  -- without snap every point's current is its original
  pub still : snap ≡ false → s.currents ≡ o
  -- and no point is moved by two segments
  pub once : snap ≡ false → (p i j : ℕ) → i < j → j < t.len → is_linked (mover_at alone axis t es p i) ≡ true → is_linked (mover_at alone axis t es p j) ≡ true → ⊥

-- ---- behind strong points
-- of two touched points, of one contour or of two, the one of lower original does not end higher, where c are the currents and t the marks. Of equal originals nothing is said: points of one
-- original may have several font positions, and then they may end apart, either way round
pub record TouchedInOrder (o c : List ℤ) (t : List ℕ) : Type 0 where
  pub rise : (p q : ℕ) → is_touched t p ≡ true → is_touched t q ≡ true → at o p <ℤ at o q → at c p ≤ℤ at c q
