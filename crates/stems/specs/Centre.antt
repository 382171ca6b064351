-- The words of request #112: a thin Latin stem visited beside an anchor, and how far the visit places it from the centre that the anchor's shift gives it.
use Rattle.std.specs.Prelude.{None, Some}
use Rattle.std.specs.Prelude.{◌≡◌, false, List, ℕ, ◌<◌, length, ℤ, pos, ◌+ℤ◌, ◌*ℤ◌, ◌<ℤ◌}
use Rattle.axis.specs.declared.kinds.Group.TheVariants.{Default}
use Rattle.axis.specs.declared.edge.Axis.{Axis}
use Rattle.axis.specs.Edge.{edge_at}
use Rattle.place.specs.declared.adjust.LinkDir.TheVariants.{Prev}
use Rattle.place.specs.Placing.{adjusted}
use Rattle.stems_latin.specs.Latin.{centre_of, thin_centre}
use Rattle.stems_latin.specs.Centre.{ChosenFor}
use Rattle.stems.specs.declared.kinds.Mode.{Mode}
use Rattle.stems.specs.Visit.{original_len, width_of, start_beside}
use Rattle.stems.specs.Stems.{State, beside_anchor, visit}

-- ---- the stem of edge i and its link k beside the anchor a, where a, i and k may be the same
-- its fitted width
abbrev pub stem_width : Mode → List ℤ → State → ℕ → ℕ → ℤ
stem_width m xs s i k = width_of m.rule xs (edge_at s.axis i) (edge_at s.axis k)

-- the centre that the anchor's shift gives it: the anchor's position, plus the edge's original less the anchor's, plus half the original length, rounded down
abbrev pub shifted_centre : State → ℕ → ℕ → ℕ → ℤ
shifted_centre s i k a = centre_of (start_beside (edge_at s.axis a) (edge_at s.axis i)) (original_len (edge_at s.axis i) (edge_at s.axis k))

-- the centre chosen for it
abbrev pub chosen_centre : Mode → List ℤ → State → ℕ → ℕ → ℕ → ℤ
chosen_centre m xs s i k a = thin_centre (shifted_centre s i k a) (stem_width m xs s i k)

-- the axis before the neighbour bound: the visit holds edge i of it to the previous edge, and nothing more
abbrev pub before_bound : Mode → List ℤ → State → ℕ → ℕ → ℕ → Axis
before_bound m xs s i k a = beside_anchor m.rule xs s.axis i k a

-- ---- the theorem
-- given: the default group, an anchor, edge i not done, its link k, which has a place in the table, neither done nor on a zone, and a fitted width below 96
pub record ThinStem (m : Mode) (xs : List ℤ) (s : State) (i k a : ℕ) : Type 0 where
  pub group : m.group ≡ Default
  pub anchor : s.anchor ≡ Some a
  pub not_done : (edge_at s.axis i).flags.done ≡ false
  pub link : (edge_at s.axis i).link ≡ Some k
  pub place : k < length s.axis.edges
  pub link_not_done : (edge_at s.axis k).flags.done ≡ false
  pub no_zone : (edge_at s.axis k).blue ≡ None
  pub thin : stem_width m xs s i k <ℤ pos 96

-- shown: the visit is the bound after what is before it, there the positions of both edges add up to twice the centre chosen, and that is chosen as `Chosen` says
pub record Centred (m : Mode) (xs : List ℤ) (s : State) (i k a : ℕ) : Type 0 where
  pub bound_after : visit m xs s i ≡ record { axis = adjusted (before_bound m xs s i k a) i Prev; count = s.count; anchor = s.anchor; trail = s.trail }
  pub about : (edge_at (before_bound m xs s i k a) i).pos +ℤ (edge_at (before_bound m xs s i k a) k).pos ≡ pos 2 *ℤ chosen_centre m xs s i k a
  pub chosen : ChosenFor (shifted_centre s i k a) (stem_width m xs s i k) (chosen_centre m xs s i k a)
