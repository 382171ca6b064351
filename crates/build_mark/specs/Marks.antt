-- Segments learn their edges: old ones are forgotten, then each member of an edge gets the edge's index and its next.
use Rattle.std.specs.Prelude.{None, Some}
use Rattle.std.specs.Prelude.{List, [], ◌∷◌, ℕ, zero, suc, get_or}
use Rattle.axis.specs.Link.{Link}
use Rattle.axis.specs.declared.segment.Segment.{Segment}
use Rattle.axis.specs.declared.segment.Segments.{Segments}
use Rattle.axis.specs.Segment.{segment_at, put_segment}
use Rattle.build_join.specs.Joining.{State, group}

-- the segment with this edge and this next
abbrev pub ringed : Segment → Link → Link → Segment
ringed s edge next = record {
  flags = s.flags;
  dir = s.dir;
  pos = s.pos;
  delta = s.delta;
  min_coord = s.min_coord;
  max_coord = s.max_coord;
  height = s.height;
  score = s.score;
  len = s.len;
  link = s.link;
  serif = s.serif;
  first = s.first;
  last = s.last;
  edge = edge;
  next = next;
}

-- the segment without them
abbrev pub forgotten : Segment → Segment
forgotten s = ringed s None None

-- the first n segments without them
unfoldable pub clear : ℕ → Segments → Segments
clear zero t = t
clear (suc n) t = put_segment (clear n t) n (forgotten (segment_at (clear n t) n))

-- all of them
unfoldable pub cleared : Segments → Segments
cleared t = clear t.len t

-- a member of edge k, with n behind it
abbrev pub member_of : Segment → ℕ → ℕ → Segment
member_of s k n = ringed s (Some k) (Some n)

-- these segments are members of edge k
unfoldable pub marks : List ℕ → ℕ → List ℕ → Segments → Segments
marks next k [] t = t
marks next k (m ∷ ms) t = marks next k ms (put_segment t m (member_of (segment_at t m) k (get_or next m 0)))

-- so for the groups of the first n edges
unfoldable pub group_marks : State → ℕ → Segments → Segments
group_marks s zero t = t
group_marks s (suc k) t = marks s.next k (group s k) (group_marks s k t)
