-- The words of request #102: a stem that is visited does not vanish.
use Rattle.std.specs.Prelude.{Some}
use Rattle.std.specs.Prelude.{◌≡◌, false, List, ◌⊎◌, ℕ, ◌<◌, length, ℤ}
use Rattle.fixed.specs.declared.width.WidthRule.TheVariants.{Snap}
use Rattle.axis.specs.declared.edge.Axis.{Axis}
use Rattle.axis.specs.Edge.{edge_at}
use Rattle.place.specs.declared.adjust.LinkDir.TheVariants.{Prev}
use Rattle.place.specs.Placing.{adjusted}
use Rattle.place.specs.Thin.{PixelApart, HasWidth}
use Rattle.stems.specs.declared.kinds.Mode.{Mode}
use Rattle.stems.specs.Visit.{too_close}
use Rattle.stems.specs.Stems.{State, beside_anchor}

-- given: Snap, edge i not done, its link k, which has a place in the table, a stem that is not passed over, and a width between their original positions
pub record VisitedStem (m : Mode) (xs : List ℤ) (s : State) (i k : ℕ) : Type 0 where
  pub rule : m.rule ≡ Snap
  pub not_done : (edge_at s.axis i).flags.done ≡ false
  pub link : (edge_at s.axis i).link ≡ Some k
  pub place : k < length s.axis.edges
  pub not_close : too_close m.group s.trail.last (edge_at s.axis i) (edge_at s.axis k) ≡ false
  pub has_width : HasWidth xs (edge_at s.axis i).opos (edge_at s.axis k).opos

-- the state t that the visit comes to holds edge i of an axis to the previous edge: that axis is the one of a stem beside an anchor
pub record BoundAfter (m : Mode) (xs : List ℤ) (s : State) (i k : ℕ) (before : Axis) (t : State) : Type 0 where
  pub anchor : ℕ
  pub beside : before ≡ beside_anchor m.rule xs s.axis i k anchor
  pub bound : t.axis ≡ adjusted before i Prev

-- shown of the state t that the visit comes to: it has an axis, or the neighbour bound after it, in which the two edges are at least a pixel apart
pub record NotVanishing (m : Mode) (xs : List ℤ) (s : State) (i k : ℕ) (t : State) : Type 0 where
  pub before : Axis
  pub visited : (t.axis ≡ before) ⊎ BoundAfter m xs s i k before t
  pub apart : PixelApart (edge_at before i).pos (edge_at before k).pos
