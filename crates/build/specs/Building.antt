-- Building (document 01, module 4): the refusals, then edges from segments, in groups (`build_join`), and their properties (`build_properties`).
use Rattle.std.specs.Prelude.{◌≡◌, Bool, true, false, cond, ◌&&◌, List, [], ◌∷◌, ℕ, leb, ℤ, pos, nat_abs}
use Rattle.std.specs.Int.Signed.{lt_z}
use Rattle.refusals.specs.Refusal.{Test, ◌unless◌, refusal, answered, too_long, bad_parameter, out_of_range, no_room}
use Rattle.fixed.specs.Point.{mul_fix, div_fix}
use Rattle.axis.specs.declared.edge.Axis.{Axis}
use Rattle.axis.specs.declared.kinds.Dimension.{Dimension}
use Rattle.axis.specs.declared.kinds.Direction.{Direction}
use Rattle.axis.specs.declared.kinds.Group.{Group}
use Rattle.axis.specs.declared.kinds.Group.TheVariants as Groups
use Rattle.axis.specs.declared.segment.Segment.{Segment}
use Rattle.axis.specs.declared.segment.Segments.{Segments}
use Rattle.axis.specs.Limits.{most_edges, most_units, most_score, least_scale, most_scale}
use Rattle.axis.specs.Mark.{unmarked_axis}
use Rattle.axis.specs.Refusals.{inside, within, every_segment, bottom_to_top, segments_short, segments_indexed, segments_in_range}
use Rattle.build_join.specs.declared.rules.Rules.{Rules}
use Rattle.build_join.specs.Joining.{State, shown}
pub use Rattle.build_join.specs.Joining.{last_state}
use Rattle.build_properties.specs.Properties.{edge_properties}
use Rattle.build_mark.specs.Marks.{cleared, group_marks}
use Rattle.build.specs.Answer.{Built}
use Rattle.build.specs.declared.numbers.Thresholds.{Thresholds}

-- ---- the refusals
-- scale and thresholds are within the table
unfoldable pub numbers_hold : ℤ → Thresholds → Bool
numbers_hold scale by =
    inside (pos least_scale) (pos most_scale) scale
    && (inside (pos 0) (pos most_score) by.distance
    && (inside (pos 0) (pos most_score) by.length
    && inside (pos 0) (pos most_score) by.width))

-- a segment's position at the scale is
unfoldable pub scaled_holds : ℤ → Segment → Bool
scaled_holds scale s = within most_units (mul_fix s.pos scale)

-- every segment's is
unfoldable pub products_hold : Segments → ℤ → Bool
products_hold t scale = every_segment (scaled_holds scale) t

-- the tests of refusals 1, 10 and 2 to 4 in their order; of the old edges only the count is tested
abbrev pub building_tests : Segments → ℕ → Bool → ℤ → Thresholds → List Test
building_tests t edges ttb scale by =
    segments_short t ∷ too_long unless leb edges most_edges ∷ bottom_to_top ttb ∷ bad_parameter unless numbers_hold scale by ∷ segments_indexed t ∷ segments_in_range t ∷ out_of_range unless products_hold t scale ∷ []

-- ---- the rules
-- CJK's rules apply
abbrev pub is_cjk : Group → Bool
is_cjk Groups.Default = false
is_cjk Groups.Cjk = true

-- a quarter of a pixel, the most that the distance threshold comes to at the scale
abbrev pub most_distance : ℤ
most_distance = pos 16

-- the distance threshold in font units, held to a quarter of a pixel: Latin takes it to the scale and back, CJK only where it is more than that
unfoldable pub distance_threshold : Bool → ℤ → ℤ → ℤ
distance_threshold false first scale = div_fix (cond (lt_z most_distance (mul_fix first scale)) most_distance (mul_fix first scale)) scale
distance_threshold true first scale = cond (lt_z most_distance (mul_fix first scale)) (div_fix most_distance scale) first

-- as a distance
abbrev pub near_of : Bool → ℤ → ℤ → ℕ
near_of cjk first scale = nat_abs (distance_threshold cjk first scale)

-- what joining is told
abbrev pub rules_of : Dimension → Direction → Bool → ℤ → Thresholds → Rules
rules_of dim major cjk scale by = record {
  dim = dim;
  major_dir = major;
  cjk = cjk;
  scale = scale;
  near = near_of cjk by.distance scale;
  length = by.length;
  width = by.width;
}

-- ---- the work
-- the segments of a state: old rings and edges forgotten, and each member with its edge and its next
unfoldable pub built_segments : Segments → State → Segments
built_segments t s = group_marks s s.count (cleared t)

-- its edges
abbrev pub built_edges : Segments → Rules → State → Axis
built_edges t r s = (shown t r s).axis

-- segments and edges beside an answer
abbrev pub beside : Segments → Axis → ℕ → Built
beside t axis k = record { answer = k; segments = t; axis = axis }

-- the same without marks
abbrev pub without_marks : Built → Built
without_marks r = beside r.segments (unmarked_axis r.axis) r.answer

-- refusal 5 where the rules called for a 129th edge, and else the segments and the edges with their properties
unfoldable pub built : Segments → Axis → Rules → State → Built
built t old r s = cond s.full (beside t old no_room) (beside (built_segments t s) (edge_properties (built_edges t r s) (built_segments t s)) 0)

-- what the call hands back; beside a refusal segments and edges as they were
unfoldable pub compute_edges : Segments → Axis → Group → Bool → ℤ → Thresholds → Built
compute_edges t old group ttb scale by =
    answered (refusal (building_tests t old.len ttb scale by)) (beside t old)
    (built t old (rules_of old.dim old.major_dir (is_cjk group) scale by) (last_state t (rules_of old.dim old.major_dir (is_cjk group) scale by)))

-- what the call owes its caller: the answer, the segments and the axis
abbrev pub ComputesEdges : Segments → Axis → Group → Bool → ℤ → Thresholds → Built → Type 0
ComputesEdges t old group ttb scale by r = r ≡ compute_edges t old group ttb scale by
