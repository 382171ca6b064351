-- What a starred row says of the definitions, by part.
use Rattle.std.specs.Prelude.{◌≡◌, ℕ, ◌-◌, Bool, false, List, [], ◌∷◌, ◌++◌, length, replicate, ℤ}
use Rattle.refusals.specs.Refusal.{refusal}
use Rattle.weak.specs.Weak.{weak_tests, result}
use Rattle.fixed.specs.declared.width.WidthRule.{WidthRule}
use Rattle.axis.specs.declared.kinds.Dimension.{Dimension}
use Rattle.axis.specs.declared.kinds.Dimension.TheVariants.{Horizontal}
use Rattle.axis.specs.Link.{Link}
use Rattle.axis.specs.declared.kinds.Direction.{Direction}
use Rattle.axis.specs.declared.kinds.Direction.TheVariants as Directions
use Rattle.axis.specs.declared.kinds.Group.{Group}
use Rattle.axis.specs.declared.edge.Edge.{Edge}
use Rattle.axis.specs.declared.edge.Axis.{Axis}
use Rattle.axis.specs.declared.segment.Segment.{Segment}
use Rattle.axis.specs.declared.segment.Segments.{Segments}
use Rattle.axis.specs.Edge.{empty_edge}
use Rattle.axis.specs.Segment.{empty_segment}
use Rattle.axis.specs.Limits.{most_edges, most_segments}
use Rattle.link.specs.Linking.{beside, link_segments_cjk}
use Rattle.build.specs.Building.{is_cjk, distance_threshold}
use Rattle.lowercase_m.specs.M.{hinted, hint_lowercase_m}
use Rattle.stems_cjk.specs.Hint.{hinted as hinted_cjk, hint_normal_stem_cjk}
use Rattle.stems.specs.Stems.{stems as aligned, align_stem_edges}

-- an axis of these edges, its other places empty
abbrev axis_of : Dimension → List Edge → Axis
axis_of dim es = record { dim = dim; major_dir = Directions.None; edges = es ++ replicate (most_edges - length es) empty_edge; len = length es }

-- the table of these segments, its other places empty
abbrev segments_of : List Segment → Segments
segments_of l = record { segments = l ++ replicate (most_segments - length l) empty_segment; len = length l }

-- a row: its input and its result
pub data Row : Type 0 where
  -- originals, currents, touch marks and contour ends of an outline; the answer, and the currents at the end
  weak : List ℤ → List ℤ → List ℕ → List ℕ → ℕ → List ℤ → Row
  -- a dimension, STEM_ADJUST or not, a width rule without standards, the two edges of a CJK stem and a passed delta; the answer, the delta handed back, and
  -- the edges at the end
  stem_cjk : Dimension → Bool → WidthRule → List Edge → ℤ → ℕ → ℤ → List Edge → Row
  -- a dimension, a group, STEM_ADJUST or not, the anchor or none, a width rule without standards and the edges of a stem pass; the
  -- answer, the count, the anchor handed back, and the edges at the end
  stems : Dimension → Group → Bool → Link → WidthRule → List Edge → ℕ → ℕ → Link → List Edge → Row
  -- a group, the first threshold and the scale; the distance threshold
  build : Group → ℤ → ℤ → ℤ → Row
  -- a group and the edges of an m; the answer, and the edges at the end
  m : Group → List Edge → ℕ → List Edge → Row
  -- segments, their major direction, units per em and scale; the answer, and the segments at the end
  link : List Segment → Direction → ℤ → ℤ → ℕ → List Segment → Row

-- the definitions give the row's result on the row's input
abbrev pub Holds : Row → Type 0
Holds (weak originals currents touched ends answer after) =
    (refusal (weak_tests originals currents touched ends) ≡ answer) × (result originals currents touched ends ≡ after)
Holds (stem_cjk dim adjust rule edges d answer delta after) =
    hint_normal_stem_cjk (axis_of dim edges) adjust rule [] 0 1 d ≡ hinted_cjk (axis_of dim after) delta answer
Holds (stems dim group adjust anchor rule edges answer count anchor' after) =
    align_stem_edges (axis_of dim edges) group adjust false anchor rule [] ≡ aligned count anchor' (axis_of dim after) answer
Holds (build group first scale threshold) = distance_threshold (is_cjk group) first scale ≡ threshold
Holds (m group edges answer after) = hint_lowercase_m (axis_of Horizontal edges) group ≡ hinted (axis_of Horizontal after) answer
Holds (link segments major upem scale answer after) = link_segments_cjk (segments_of segments) major upem scale ≡ beside (segments_of after) answer

-- every row of a list does
abbrev pub All : List Row → Type 0
All [] = Unit {0}
All (r ∷ rs) = Holds r × All rs
