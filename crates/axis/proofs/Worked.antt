-- Rings by hand: the edges of segments, the segment behind each, the first and the last.
use Rattle.std.specs.Prelude.{None, Some}
use mathlib.Core.Path.{◌≡◌, refl}
use mathlib.Core.Bool.{Bool, true, false}
use mathlib.Core.List.{List, [], ◌∷◌}
use Prim.Native.Nat.{ℕ}
use lib.Dec.{eqb}
use lib.IntN.{pos}
use lib.ListN.{length, get_or}
use Rattle.axis.specs.declared.edge.Axis.{Axis}
use Rattle.axis.specs.declared.kinds.Direction.TheVariants as Directions
use Rattle.axis.specs.declared.kinds.Dimension.TheVariants as Dimensions
use Rattle.axis.specs.Link.{Link}
use Rattle.axis.specs.declared.kinds.Mark.TheVariants as Marks
use Rattle.axis.specs.declared.segment.Segment.{Segment}
use Rattle.axis.specs.declared.segment.Segments.{Segments}
use Rattle.axis.specs.Edge.{empty_edge, changed}
use Rattle.axis.specs.Link.{links_to}
use Rattle.axis.specs.Refusals.{every}
use Rattle.axis.specs.Ring.{walk, ends, times, sound_ring, is_sound}
use Rattle.axis.specs.Segment.{empty_segment}

-- the ring of edge 0
abbrev holds : List ℕ → List ℕ → ℕ → ℕ → Bool
holds edges next first last = sound_ring (λ (i : ℕ). eqb (get_or edges i 0) 0) (λ (i : ℕ). get_or next i 0) (length edges) first last

-- two segments, and the same one step further round
two : holds (0 ∷ 0 ∷ []) (1 ∷ 0 ∷ []) 0 1 ≡ true
unfolding sound_ring ends walk times every
two = refl

turned : holds (0 ∷ 0 ∷ []) (1 ∷ 0 ∷ []) 1 0 ≡ true
unfolding sound_ring ends walk times every
turned = refl

-- not in rising order
falling : holds (0 ∷ 0 ∷ 0 ∷ []) (2 ∷ 0 ∷ 1 ∷ []) 2 0 ≡ true
unfolding sound_ring ends walk times every
falling = refl

-- one that leads to itself, and one that leads nowhere
alone : holds (0 ∷ []) (0 ∷ []) 0 0 ≡ true
unfolding sound_ring ends walk times every
alone = refl

open-ended : holds (0 ∷ []) (1 ∷ []) 0 0 ≡ false
unfolding sound_ring ends walk times every
open-ended = refl

-- a segment on the way leads nowhere
missing : holds (0 ∷ 0 ∷ []) (2 ∷ 0 ∷ []) 0 1 ≡ false
unfolding sound_ring ends walk times every
missing = refl

-- a closed loop that leaves a segment out, one that visits another edge's, and one whose last is in the middle
short : holds (0 ∷ 0 ∷ 0 ∷ []) (1 ∷ 0 ∷ 2 ∷ []) 0 1 ≡ false
unfolding sound_ring ends walk times every
short = refl

stranger : holds (0 ∷ 1 ∷ 0 ∷ []) (1 ∷ 2 ∷ 0 ∷ []) 0 2 ≡ false
unfolding sound_ring ends walk times every
stranger = refl

early : holds (0 ∷ 0 ∷ 0 ∷ []) (1 ∷ 2 ∷ 0 ∷ []) 0 1 ≡ false
unfolding sound_ring ends walk times every
early = refl

-- a walk that never comes to the last
endless : holds (0 ∷ 0 ∷ 0 ∷ []) (1 ∷ 0 ∷ 0 ∷ []) 0 2 ≡ false
unfolding sound_ring ends walk times every
endless = refl

-- ---- as a table: an edge from segment 0 to segment 1, both of it, of which the first leads to a segment or to none
abbrev member : Link → Segment
member next = record {
  flags = empty_segment.flags;
  dir = empty_segment.dir;
  pos = empty_segment.pos;
  delta = empty_segment.delta;
  min_coord = empty_segment.min_coord;
  max_coord = empty_segment.max_coord;
  height = empty_segment.height;
  score = empty_segment.score;
  len = empty_segment.len;
  link = None;
  serif = None;
  first = 0;
  last = 0;
  edge = Some 0;
  next = next;
}

abbrev edges : Axis
edges =
    record {
      dim = Dimensions.Vertical;
      major_dir = Directions.Right;
      edges = changed empty_edge (pos 0) Marks.Nothing empty_edge.flags None
          None None 1 ∷ [];
      len = 1;
    }

abbrev leading : Link → Segments
leading next = record { segments = member next ∷ member (Some 0) ∷ []; len = 2 }

round : is_sound edges (leading (Some 1)) 0 ≡ true
unfolding sound_ring ends walk times every links_to
round = refl

-- following the ring from segment 0 leads nowhere, though segment 1 leads back
led-nowhere : is_sound edges (leading None) 0 ≡ false
unfolding sound_ring ends walk times every links_to
led-nowhere = refl
