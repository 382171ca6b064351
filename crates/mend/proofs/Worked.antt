-- Rings made anew, and axes mended, by hand.
use Rattle.std.specs.Prelude.{None, Some}
use mathlib.Core.Path.{◌≡◌, refl}
use mathlib.Core.Bool.{Bool}
use mathlib.Core.List.{List, [], ◌∷◌}
use Prim.Native.Nat.{ℕ}
use lib.IntN.{pos}
use lib.ListN.{length}
use Rattle.refusals.specs.Refusal.{refusal}
use Rattle.axis.specs.declared.edge.Edge.{Edge}
use Rattle.axis.specs.declared.edge.Axis.{Axis}
use Rattle.axis.specs.declared.kinds.Dimension.TheVariants as Dimensions
use Rattle.axis.specs.declared.kinds.Direction.TheVariants as Directions
use Rattle.axis.specs.Link.{Link}
use Rattle.axis.specs.declared.segment.Segment.{Segment}
use Rattle.axis.specs.declared.segment.Segments.{Segments}
use Rattle.axis.specs.Edge.{fresh_edge, joined_to, with_last}
use Rattle.axis.specs.Link.{links_to}
use Rattle.axis.specs.Refusals.{link_holds, blue_holds, every, edge_numbers, edges_numbers, segment_numbers, segments_numbers, segment_edge}
use Rattle.axis.specs.Ring.{walk, ends, times, sound_ring}
use Rattle.axis.specs.Segment.{empty_segment}
use Rattle.mend.specs.Following.{total, own_in}
use Rattle.mend.specs.Rebuilt.{first_from, last_below, lowest, highest, behind}
use Rattle.turn.specs.Indices.{segments_edges}
use Rattle.mend.specs.Mended.{mended_next, by_place, mended_segments, mended_axis}
use Rattle.mend.specs.Altered.{Table, Field, Alteration, in_order, alterations}
use Rattle.mend.specs.Altered as L
use Rattle.mend.specs.Mend.{edges_named, mending_tests}

-- a segment with a link, an edge and a next
abbrev segment : Link → Link → Link → Segment
segment link edge next = record {
  flags = empty_segment.flags;
  dir = Directions.Up;
  pos = pos 0;
  delta = pos 0;
  min_coord = pos 0;
  max_coord = pos 0;
  height = pos 0;
  score = pos 0;
  len = pos 0;
  link = link;
  serif = None;
  first = 0;
  last = 0;
  edge = edge;
  next = next;
}

abbrev table : List Segment → Segments
table ss = record { segments = ss; len = length ss }

-- an axis of one edge, by its serif, its first and its last
abbrev axis : Link → ℕ → ℕ → Axis
axis serif first last = record {
  dim = Dimensions.Vertical;
  major_dir = Directions.Up;
  edges = with_last (joined_to (fresh_edge (pos 1) (pos 1) Directions.Up first) None serif) last ∷ [];
  len = 1;
}

abbrev was : Table → ℕ → Field → Link → Link → Alteration
was x i f a b = record { table = x; index = i; field = f; old = a; new = b }

-- a link and a serif beyond their lists, and a ring that stops at its first segment: three fields are altered, and the others of the ring get what they had
abbrev broken : Segments
broken = table (segment (Some 5) (Some 0) None ∷ segment None (Some 0) (Some 0) ∷ [])

mended : mended_segments (axis (Some 3) 0 1) broken ≡ table (segment None (Some 0) (Some 1) ∷ segment None (Some 0) (Some 0) ∷ [])
unfolding mended_segments by_place mended_next link_holds links_to sound_ring ends walk times every first_from
mended = refl

listed :
    alterations (axis (Some 3) 0 1) broken (mended_axis (axis (Some 3) 0 1) broken) (mended_segments (axis (Some 3) 0 1) broken)
    ≡ was L.segments 0 L.link (Some 5) None ∷ was L.segments 0 L.next None (Some 1) ∷ was L.edges 0 L.serif (Some 3) None ∷ []
unfolding alterations in_order mended_axis mended_segments by_place mended_next link_holds links_to sound_ring ends walk times every first_from last_below
listed = refl

-- the ring one step further round, and a segment without an edge whose next is one: nothing is altered
sound :
    alterations (axis None 1 0) (table (segment None (Some 0) (Some 1) ∷ segment None (Some 0) (Some 0) ∷ segment None None (Some 1) ∷ []))
    (mended_axis (axis None 1 0) (table (segment None (Some 0) (Some 1) ∷ segment None (Some 0) (Some 0) ∷ segment None None (Some 1) ∷ [])))
    (mended_segments (axis None 1 0) (table (segment None (Some 0) (Some 1) ∷ segment None (Some 0) (Some 0) ∷ segment None None (Some 1) ∷ [])))
    ≡ []
unfolding alterations in_order mended_axis mended_segments by_place mended_next link_holds links_to sound_ring ends walk times every first_from last_below
sound = refl

-- ---- alone, exchanged, far beyond
-- a lone segment that leads nowhere leads to itself
lone : mended_segments (axis None 0 0) (table (segment None (Some 0) None ∷ [])) ≡ table (segment None (Some 0) (Some 0) ∷ [])
unfolding mended_segments by_place mended_next link_holds links_to sound_ring ends walk times every first_from
lone = refl

-- 65,535 is an index, beyond every list: a link, and a next without an edge
far : mended_segments (axis None 0 0) (table (segment None (Some 0) (Some 0) ∷ segment (Some 65535) None (Some 65535) ∷ []))
    ≡ table (segment None (Some 0) (Some 0) ∷ segment None None None ∷ [])
unfolding mended_segments by_place mended_next link_holds links_to sound_ring ends walk times every first_from
far = refl

-- two edges, each with the other's first and last: both rings are made anew, and only first and last are altered
abbrev two : ℕ → ℕ → Axis
two a b =
    record {
      dim = Dimensions.Vertical;
      major_dir = Directions.Up;
      edges = fresh_edge (pos 1) (pos 1) Directions.Up a
          ∷ fresh_edge (pos 2) (pos 2) Directions.Up b ∷ [];
      len = 2;
    }

abbrev each : Segments
each = table (segment None (Some 0) (Some 0) ∷ segment None (Some 1) (Some 1) ∷ [])

exchanged :
    alterations (two 1 0) each (mended_axis (two 1 0) each) (mended_segments (two 1 0) each)
    ≡ was L.edges 0 L.first (Some 1) (Some 0) ∷ was L.edges 0 L.last (Some 1) (Some 0) ∷ was L.edges 1 L.first (Some 0) (Some 1) ∷ was L.edges 1 L.last (Some 0) (Some 1) ∷ []
unfolding alterations in_order mended_axis mended_segments by_place mended_next link_holds links_to sound_ring ends walk times every first_from last_below
exchanged = refl

-- ---- made anew: 0, 2 and 3 of edge 0
abbrev own : ℕ → Bool
own = own_in (0 ∷ 1 ∷ 0 ∷ 0 ∷ 1 ∷ []) 0

from : lowest own 5 ≡ 0
unfolding first_from
from = refl

to : highest own 5 ≡ 3
unfolding last_below
to = refl

first-leads : behind own 5 0 ≡ 2
unfolding first_from
first-leads = refl

second-leads : behind own 5 2 ≡ 3
unfolding first_from
second-leads = refl

last-leads : behind own 5 3 ≡ 0
unfolding first_from
last-leads = refl

-- ---- refusals
-- an edge that no segment names is 7, and behind it nothing; an edge index beyond the table is 3, in front of it
unnamed : refusal (mending_tests (axis None 0 0) (table (segment None None None ∷ []))) ≡ 7
unfolding refusal link_holds links_to blue_holds every edge_numbers edges_numbers segment_numbers segments_numbers segment_edge segments_edges edges_named total
unnamed = refl

no-segments : refusal (mending_tests (axis None 0 0) (table [])) ≡ 7
unfolding refusal link_holds links_to blue_holds every edge_numbers edges_numbers segment_numbers segments_numbers segment_edge segments_edges edges_named total
no-segments = refl

beyond : refusal (mending_tests (axis None 0 0) (table (segment None (Some 1) None ∷ []))) ≡ 3
unfolding refusal link_holds links_to blue_holds every edge_numbers edges_numbers segment_numbers segments_numbers segment_edge segments_edges
beyond = refl
