-- Request #113: the call.
use Rattle.std.specs.Prelude.{Bool, List, [], ◌∷◌, ◌++◌, ℕ, ◌<◌}
use Rattle.refusals.specs.Refusal.{Test, ◌unless◌, refusal, answered, broken_ring}
use Rattle.axis.specs.declared.edge.Axis.{Axis}
use Rattle.axis.specs.declared.segment.Segments.{Segments}
use Rattle.axis.specs.Accepted.{Below}
use Rattle.axis.specs.Refusals.{every}
use Rattle.axis.specs.Ring.{is_sound}
use Rattle.axis.specs.Segment.{segment_at}
use Rattle.turn.specs.Indices.{index_tests}
use Rattle.pack.specs.Packed.{packed_segments, packed_axis, SegmentsHold, EdgesHold}

-- ---- the tests in their order
-- the ring of every edge is sound, in the words of request #107
unfoldable pub rings_sound : Axis → Segments → Bool
rings_sound axis t = every (λ (k : ℕ). is_sound axis t k) axis.len

-- lengths and every index, those of segments that are dropped too; then rings. Numbers are not tested, and are carried as they are
abbrev pub packing_tests : Axis → Segments → List Test
packing_tests axis t = index_tests axis t ++ (broken_ring unless rings_sound axis t ∷ [])

-- ---- what the call hands back
-- the answer, the axis and the segments
pub record Packed : Type 0 where
  pub answer : ℕ
  pub axis : Axis
  pub segments : Segments

abbrev pub beside : Axis → Segments → ℕ → Packed
beside axis t k = record { answer = k; axis = axis; segments = t }

-- both packed beside 0, or both as they were beside the refusal
unfoldable pub pack : Axis → Segments → Packed
pack axis t = answered (refusal (packing_tests axis t)) (beside axis t) (beside (packed_axis t axis) (packed_segments t) 0)

-- ---- on the way
-- what refusals 1 and 3 have tested
pub record Holding (axis : Axis) (t : Segments) : Type 0 where
  pub segments : SegmentsHold t
  pub edges : EdgesHold axis t.len
  pub named : (i : ℕ) → i < t.len → Below axis.len (segment_at t i).edge
