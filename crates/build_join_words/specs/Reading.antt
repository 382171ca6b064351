-- What joining reads of segments, where their words stand; whatever the words are, they are read as some.
use Rattle.std.specs.Prelude.{None, Some}
use Rattle.std.specs.Prelude.{Bool, cond, List, ℕ, ◌*◌, ℤ, pos}
use Rattle.axis.specs.declared.edge.Edge.{Edge}
use Rattle.axis.specs.declared.kinds.Direction.TheVariants as Directions
use Rattle.axis.specs.Link.{Link}
use Rattle.axis.specs.declared.segment.Segment.{Segment}
use Rattle.axis.specs.Edge.{fresh_edge, with_last}
use Rattle.axis.specs.Flags.{normal}
use Rattle.axis.specs.Limits.{most_segments}
use Rattle.build_join.specs.Walks.{no_stem}
use Rattle.words.specs.Segment.{segment_size, segment_from}
use Rattle.words.specs.Word.{firsts}

-- ---- of a segment by itself
-- what joining asks of it, its other fields empty
abbrev pub asked : Segment → Segment
asked s = record {
  flags = normal;
  dir = s.dir;
  pos = s.pos;
  delta = s.delta;
  min_coord = pos 0;
  max_coord = pos 0;
  height = s.height;
  score = pos 0;
  len = pos 0;
  link = None;
  serif = s.serif;
  first = 0;
  last = 0;
  edge = None;
  next = None;
}

-- the segment whose words are the i-th, and what is asked of it
abbrev pub words_of : List ℤ → ℕ → Segment
words_of ws i = segment_from ws (segment_size * i)

abbrev pub segment_in : List ℤ → ℕ → Segment
segment_in ws i = asked (words_of ws i)

-- ---- of an edge
-- an edge from its first segment to its last, as far as joining asks for it: where the first stands, and its direction
abbrev pub edge_by : Segment → ℕ → ℕ → Edge
edge_by s first last = with_last (fresh_edge s.pos (pos 0) s.dir first) last

abbrev pub edge_in : List ℤ → ℕ → ℕ → Edge
edge_in ws first last = edge_by (words_of ws first) first last

-- an edge at a position, as far as nothing else is asked of it
abbrev pub edge_at_place : ℤ → Edge
edge_at_place place = fresh_edge place (pos 0) Directions.None 0

-- ---- of a segment's link
-- its position, or the number that stands for none
unfoldable pub stem_of : List ℤ → Link → ℤ
stem_of ws None = no_stem
stem_of ws (Some k) = (words_of ws k).pos

abbrev pub stem_in : List ℤ → ℕ → ℤ
stem_in ws i = stem_of ws (words_of ws i).link

-- that of each segment
abbrev pub stems_in : List ℤ → List ℤ
stems_in ws = firsts (stem_in ws) most_segments

-- that of segment i for CJK; Latin asks for none
abbrev pub own_stem : List ℤ → Bool → ℕ → ℤ
own_stem ws cjk i = cond cjk (stem_in ws i) no_stem
