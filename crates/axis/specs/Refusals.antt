-- The tests that calls over edges and segments share (document 01, "Five refusals, tested in this order"); each call lists them in its order, with its own.
use Rattle.std.specs.Prelude.{None, Some}
use Rattle.std.specs.Prelude.{Bool, true, not, ◌&&◌, ℕ, zero, suc, min, ltb, leb, ℤ, pos, neg_ℤ}
use Rattle.std.specs.Int.Signed.{le_z}
use Rattle.refusals.specs.Refusal.{Test, ◌unless◌, too_long, bad_index, out_of_range, retired}
use Rattle.axis.specs.Link.{Link}
use Rattle.axis.specs.Link.{Blue}
use Rattle.axis.specs.declared.accept.EdgeTest.{EdgeTest}
use Rattle.axis.specs.declared.accept.EdgeTest.TheVariants as EdgeTests
use Rattle.axis.specs.declared.accept.SegmentTest.{SegmentTest}
use Rattle.axis.specs.declared.accept.SegmentTest.TheVariants as SegmentTests
use Rattle.axis.specs.declared.edge.Edge.{Edge}
use Rattle.axis.specs.declared.edge.Axis.{Axis}
use Rattle.axis.specs.declared.segment.Segment.{Segment}
use Rattle.axis.specs.declared.segment.Segments.{Segments}
use Rattle.axis.specs.Edge.{edge_at, has_blue}
use Rattle.axis.specs.Segment.{segment_at}
use Rattle.axis.specs.Limits.{most_segments, most_edges, most_units, most_pos, most_score}

-- ---- tests of one number and of one index
-- from lo to hi
abbrev pub inside : ℤ → ℤ → ℤ → Bool
inside lo hi z = le_z lo z && le_z z hi

-- from -n to n
abbrev pub within : ℕ → ℤ → Bool
within n z = inside (neg_ℤ (pos n)) (pos n) z

-- an index is below n; where there is none, there is nothing to test
unfoldable pub link_holds : ℕ → Link → Bool
link_holds n None = true
link_holds n (Some k) = ltb k n

-- a present blue's fitted position is within the table
unfoldable pub blue_holds : Blue → Bool
blue_holds None = true
blue_holds (Some z) = within most_units z

-- ---- tests of every place
-- a test holds of each number below n
unfoldable pub every : (ℕ → Bool) → ℕ → Bool
every p zero = true
every p (suc n) = every p n && p n

-- a test holds of each edge that the table holds
abbrev pub every_edge : (Edge → Bool) → Axis → Bool
every_edge p axis = every (λ (i : ℕ). p (edge_at axis i)) (min axis.len most_edges)

-- a test holds of each segment that the table holds
abbrev pub every_segment : (Segment → Bool) → Segments → Bool
every_segment p t = every (λ (i : ℕ). p (segment_at t i)) (min t.len most_segments)

-- ---- edges
-- link and serif of an edge are below the edge count
unfoldable pub edge_indices : ℕ → Edge → Bool
edge_indices n e = link_holds n e.link && link_holds n e.serif

-- first and last of an edge are below the segment count
unfoldable pub edge_segments : ℕ → Edge → Bool
edge_segments n e = ltb e.first n && ltb e.last n

-- an edge has no zone
abbrev pub is_bare : Edge → Bool
is_bare e = not (has_blue e.blue)

-- opos, pos and a present blue's fitted are within the table
unfoldable pub edge_numbers : Edge → Bool
edge_numbers e = within most_units e.opos && (within most_pos e.pos && blue_holds e.blue)

-- the tests of one edge, by their names
unfoldable pub edge_passes : EdgeTest → Edge → Bool
edge_passes (EdgeTests.Indices n) e = edge_indices n e
edge_passes (EdgeTests.Segments n) e = edge_segments n e
edge_passes EdgeTests.Numbers e = edge_numbers e
edge_passes EdgeTests.Bare e = is_bare e

-- the same of every edge
unfoldable pub edges_indices : Axis → Bool
edges_indices axis = every_edge (edge_indices axis.len) axis

unfoldable pub edges_numbers : Axis → Bool
edges_numbers axis = every_edge edge_numbers axis

-- ---- segments
-- link and serif of a segment are below the segment count
unfoldable pub segment_indices : ℕ → Segment → Bool
segment_indices n s = link_holds n s.link && link_holds n s.serif

-- next is
unfoldable pub segment_next : ℕ → Segment → Bool
segment_next n s = link_holds n s.next

-- its edge is below the edge count
unfoldable pub segment_edge : ℕ → Segment → Bool
segment_edge m s = link_holds m s.edge

-- score and len are within the table
unfoldable pub segment_numbers : Segment → Bool
segment_numbers s = inside (pos 0) (pos most_score) s.score && inside (pos 0) (pos most_score) s.len

-- the tests of one segment, by their names
unfoldable pub segment_passes : SegmentTest → Segment → Bool
segment_passes (SegmentTests.Indices n) s = segment_indices n s
segment_passes (SegmentTests.Next n) s = segment_next n s
segment_passes (SegmentTests.Edge m) s = segment_edge m s
segment_passes SegmentTests.Numbers s = segment_numbers s

-- the same of every segment
unfoldable pub segments_indices : Segments → Bool
segments_indices t = every_segment (segment_indices t.len) t

unfoldable pub segments_nexts : Segments → Bool
segments_nexts t = every_segment (segment_next t.len) t

unfoldable pub segments_numbers : Segments → Bool
segments_numbers t = every_segment segment_numbers t

-- ---- the tests of a table, each with the number of its refusal
-- no more edges than their limit
abbrev pub edges_short : Axis → Test
edges_short axis = too_long unless leb axis.len most_edges

-- edges stand from bottom to top: a call that asks for top to bottom asks for an order that is retired
abbrev pub bottom_to_top : Bool → Test
bottom_to_top top_to_bottom = retired unless not top_to_bottom

-- the indices of edges, their numbers
abbrev pub edges_indexed : Axis → Test
edges_indexed axis = bad_index unless edges_indices axis

abbrev pub edges_in_range : Axis → Test
edges_in_range axis = out_of_range unless edges_numbers axis

-- no more segments than their limit
abbrev pub segments_short : Segments → Test
segments_short t = too_long unless leb t.len most_segments

-- their indices, their numbers
abbrev pub segments_indexed : Segments → Test
segments_indexed t = bad_index unless segments_indices t

abbrev pub segments_in_range : Segments → Test
segments_in_range t = out_of_range unless segments_numbers t
