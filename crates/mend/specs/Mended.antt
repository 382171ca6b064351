-- Request #107: the axis mended, all of it from the axis as given.
use Rattle.std.specs.Prelude.{None, Some}
use Rattle.std.specs.Prelude.{cond, List, [], ◌∷◌, ◌++◌, ℕ, ◌+◌, take, drop}
use Rattle.axis.specs.declared.edge.Edge.{Edge}
use Rattle.axis.specs.declared.edge.Axis.{Axis}
use Rattle.axis.specs.Link.{Link}
use Rattle.axis.specs.declared.segment.Segment.{Segment}
use Rattle.axis.specs.declared.segment.Segments.{Segments}
use Rattle.axis.specs.Refusals.{link_holds}
use Rattle.mend.specs.Rebuilt.{lowest, highest, behind}
use Rattle.axis.specs.Ring.{is_of, is_sound}

-- ---- indices
-- an index beyond a list of n becomes none
abbrev pub kept : ℕ → Link → Link
kept n l = cond (link_holds n l) l None

-- ---- records
-- the next of segment i, by its edge. Without an edge: none where it is beyond the list. With one whose ring is broken: the next segment of that edge in rising order, the last leading back to the first
unfoldable pub mended_next : Axis → Segments → ℕ → Link → Link → Link
mended_next axis t i None next = kept t.len next
mended_next axis t i (Some k) next = cond (is_sound axis t k) next (Some (behind (is_of t k) t.len i))

-- a segment with this link, serif and next, everything else as it was
abbrev pub segment_with : Segment → Link → Link → Link → Segment
segment_with s link serif next = record {
  flags = s.flags;
  dir = s.dir;
  pos = s.pos;
  delta = s.delta;
  min_coord = s.min_coord;
  max_coord = s.max_coord;
  height = s.height;
  score = s.score;
  len = s.len;
  link = link;
  serif = serif;
  first = s.first;
  last = s.last;
  edge = s.edge;
  next = next;
}

-- an edge with this link, serif, first and last segment, everything else as it was
abbrev pub edge_with : Edge → Link → Link → ℕ → ℕ → Edge
edge_with e link serif first last = record {
  fpos = e.fpos;
  opos = e.opos;
  pos = e.pos;
  flags = e.flags;
  dir = e.dir;
  blue = e.blue;
  link = link;
  serif = serif;
  first = first;
  last = last;
  mark = e.mark;
}

-- segment i mended
abbrev pub mended_segment : Axis → Segments → ℕ → Segment → Segment
mended_segment axis t i s = segment_with s (kept t.len s.link) (kept t.len s.serif) (mended_next axis t i s.edge s.next)

-- edge k mended: first and last where its ring is broken
abbrev pub mended_edge : Axis → Segments → ℕ → Edge → Edge
mended_edge axis t k e =
    edge_with e (kept axis.len e.link) (kept axis.len e.serif) (cond (is_sound axis t k) e.first (lowest (is_of t k) t.len))
    (cond (is_sound axis t k) e.last (highest (is_of t k) t.len))

-- ---- tables
-- each element of a list by its place, the first one's being i
unfoldable pub by_place : {A : Type 0} → (ℕ → A → A) → ℕ → List A → List A
by_place f i [] = []
by_place f i (x ∷ xs) = f i x ∷ by_place f (i + 1) xs

-- of a list the first n elements by their places, those behind them as they were
abbrev pub front_by : {A : Type 0} → (ℕ → A → A) → ℕ → List A → List A
front_by f n xs = by_place f 0 (take n xs) ++ drop n xs

-- the segments and the edges
unfoldable pub mended_segments : Axis → Segments → Segments
mended_segments axis t = record { segments = front_by (mended_segment axis t) t.len t.segments; len = t.len }

unfoldable pub mended_axis : Axis → Segments → Axis
mended_axis axis t = record { dim = axis.dim; major_dir = axis.major_dir; edges = front_by (mended_edge axis t) axis.len axis.edges; len = axis.len }
