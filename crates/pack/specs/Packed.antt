-- Request #113: an axis with the segments alone that serve its edges.
use Rattle.std.specs.Prelude.{None, Some}
use Rattle.std.specs.Prelude.{◌≡◌, cond, List, ◌++◌, map, ℕ, ◌-◌, ◌≤◌, ◌<◌, take, drop, replicate}
use Rattle.axis.specs.declared.edge.Edge.{Edge}
use Rattle.axis.specs.declared.edge.Axis.{Axis}
use Rattle.axis.specs.Link.{Link}
use Rattle.axis.specs.declared.segment.Segment.{Segment}
use Rattle.axis.specs.declared.segment.Segments.{Segments}
use Rattle.axis.specs.Accepted.{Below}
use Rattle.axis.specs.Edge.{edge_at, put_edge}
use Rattle.axis.specs.Limits.{most_segments, most_edges}
use Rattle.axis.specs.Link.{is_linked}
use Rattle.axis.specs.Segment.{empty_segment, segment_at}
use Rattle.pack.specs.Sets.{number_at, chosen}
use Rattle.pack.specs.Kept.{kept, new_index}

-- ---- indices
-- the index of a segment, where there is one, renumbered
abbrev pub moved : (ℕ → ℕ) → Link → Link
moved new None = None
moved new (Some k) = Some (new k)

-- ---- segments and edges
-- a segment that is kept: link and serif are renumbered, and next too where it has an edge, else it has none; everything else is as it was
abbrev pub packed_segment : (ℕ → ℕ) → Segment → Segment
packed_segment new s = record {
  flags = s.flags;
  dir = s.dir;
  pos = s.pos;
  delta = s.delta;
  min_coord = s.min_coord;
  max_coord = s.max_coord;
  height = s.height;
  score = s.score;
  len = s.len;
  link = moved new s.link;
  serif = moved new s.serif;
  first = s.first;
  last = s.last;
  edge = s.edge;
  next = cond (is_linked s.edge) (moved new s.next) None;
}

-- a segment without its indices of segments: what it is, wherever others stand
abbrev pub unnumbered : Segment → Segment
unnumbered s = record {
  flags = s.flags;
  dir = s.dir;
  pos = s.pos;
  delta = s.delta;
  min_coord = s.min_coord;
  max_coord = s.max_coord;
  height = s.height;
  score = s.score;
  len = s.len;
  link = None;
  serif = None;
  first = s.first;
  last = s.last;
  edge = s.edge;
  next = None;
}

-- an edge: its first and its last segment are renumbered, everything else is as it was
abbrev pub packed_edge : (ℕ → ℕ) → Edge → Edge
packed_edge new e = record {
  fpos = e.fpos;
  opos = e.opos;
  pos = e.pos;
  flags = e.flags;
  dir = e.dir;
  blue = e.blue;
  link = e.link;
  serif = e.serif;
  first = new e.first;
  last = new e.last;
  mark = e.mark;
}

-- ---- tables
-- how many segments are kept
abbrev pub kept_count : Segments → ℕ
kept_count t = new_index t t.len

-- the kept segments in their order; the places that are freed are empty, and those behind the old count as they were
unfoldable pub packed_segments : Segments → Segments
packed_segments t = record {
  segments =
      map (λ (k : ℕ). packed_segment (new_index t) (segment_at t k)) (chosen (kept t) t.len)
      ++ (replicate (t.len - kept_count t) empty_segment ++ drop t.len t.segments);
  len = kept_count t;
}

-- the edges in their places
abbrev pub renumbered : (ℕ → ℕ) → Axis → Axis
renumbered new axis = record {
  dim = axis.dim;
  major_dir = axis.major_dir;
  edges = map (packed_edge new) (take axis.len axis.edges) ++ drop axis.len axis.edges;
  len = axis.len;
}

unfoldable pub packed_axis : Segments → Axis → Axis
packed_axis t axis = renumbered (new_index t) axis

-- ---- on the way
-- the kept segments in front, the others as they were
unfoldable pub moved_segments : Segments → Segments
moved_segments t = record {
  segments = map (λ (k : ℕ). packed_segment (new_index t) (segment_at t k)) (chosen (kept t) t.len) ++ drop (kept_count t) t.segments;
  len = t.len;
}

-- the places from c on up to the count empty
unfoldable pub cleared : ℕ → Segments → Segments
cleared c t = record { segments = take c t.segments ++ (replicate (t.len - c) empty_segment ++ drop t.len t.segments); len = t.len }

-- edge i with its first and last segment renumbered
abbrev pub ending : ℕ → (ℕ → ℕ) → Axis → Axis
ending i new axis = put_edge axis i (packed_edge new (edge_at axis i))

-- a list has the new index of each segment
pub record Renumbers (t : Segments) (new : List ℕ) : Type 0 where
  pub at : (k : ℕ) → k < t.len → number_at new k ≡ new_index t k

-- what refusals 1 and 3 have tested of segments and of edges
pub record SegmentsHold (t : Segments) : Type 0 where
  pub few : t.len ≤ most_segments
  pub link : (i : ℕ) → i < t.len → Below t.len (segment_at t i).link
  pub serif : (i : ℕ) → i < t.len → Below t.len (segment_at t i).serif
  pub next : (i : ℕ) → i < t.len → Below t.len (segment_at t i).next

-- first and last of edge k are numbers of segments
pub record Ended (axis : Axis) (k : ℕ) : Type 0 where
  pub first : (edge_at axis k).first < most_segments
  pub last : (edge_at axis k).last < most_segments

pub record EdgesHold (axis : Axis) (n : ℕ) : Type 0 where
  pub few : axis.len ≤ most_edges
  pub first : (k : ℕ) → k < axis.len → (edge_at axis k).first < n
  pub last : (k : ℕ) → k < axis.len → (edge_at axis k).last < n
