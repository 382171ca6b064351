-- What one call hands to the next: a table that no call over it refuses on its account, and what every value of the declared types is.
use Rattle.std.specs.Prelude.{◌≡◌, true, ℕ, ◌<◌, ℤ, length}
use Rattle.signed.specs.Range.{Between}
use Rattle.axis.specs.declared.edge.Axis.{Axis}
use Rattle.axis.specs.declared.edge.Edge.{Edge}
use Rattle.axis.specs.declared.segment.Segment.{Segment}
use Rattle.axis.specs.declared.segment.Segments.{Segments}
use Rattle.axis.specs.Accepted.{Below}
use Rattle.axis.specs.Limits.{most_edges, most_segments}
use Rattle.axis.specs.Refusals.{edges_short, edges_indexed, edges_in_range, segments_short, segments_indexed, segments_in_range}
use Rattle.axis.specs.Segment.{segment_at}

-- ---- accepted tables
-- the tests that every call over edges makes of them hold
pub record EdgesAccepted (axis : Axis) : Type 0 where
  pub short : (edges_short axis).holds ≡ true
  pub indexed : (edges_indexed axis).holds ≡ true
  pub in_range : (edges_in_range axis).holds ≡ true

-- the tests that linking and building make of segments hold; linking tests `next` too (`segments_nexts`)
pub record SegmentsAccepted (t : Segments) : Type 0 where
  pub short : (segments_short t).holds ≡ true
  pub indexed : (segments_indexed t).holds ≡ true
  pub in_range : (segments_in_range t).holds ≡ true

-- ---- values of the declared types
-- Definitions have numbers of no width and lists of any length. What a call receives has the widths and lengths of its types, and this is all that a theorem here
-- uses of them. That every value of these types is so: proofs/Declared.antt.
-- a number of 16 bits
abbrev pub Short : ℤ → Type 0
Short z = Between 32768 32767 z

-- the coordinates of a segment are such
pub record TypedSegment (s : Segment) : Type 0 where
  pub pos : Short s.pos
  pub low : Short s.min_coord
  pub high : Short s.max_coord

-- a table of segments has all its places, and each holds such a segment
pub record Typed (t : Segments) : Type 0 where
  pub places : length t.segments ≡ most_segments
  pub segment : (i : ℕ) → TypedSegment (segment_at t i)

-- the font position of an edge is such, and its indices are of 16 bits too
pub record TypedEdge (e : Edge) : Type 0 where
  pub fpos : Short e.fpos
  pub link : Below 65536 e.link
  pub serif : Below 65536 e.serif
  pub first : e.first < 65536
  pub last : e.last < 65536

-- an axis has all its places
pub record TypedAxis (axis : Axis) : Type 0 where
  pub places : length axis.edges ≡ most_edges
