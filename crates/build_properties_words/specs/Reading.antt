-- What the properties of edges read of segments, where their words stand; whatever the words are, they are read as some.
use Rattle.std.specs.Prelude.{None, Some}
use Rattle.std.specs.Prelude.{List, ℕ, ◌*◌, ◌<◌, ℤ, pos}
use Rattle.axis.specs.declared.kinds.Direction.TheVariants as Directions
use Rattle.axis.specs.Link.{Link}
use Rattle.axis.specs.declared.segment.Segment.{Segment}
use Rattle.axis.specs.Accepted.{Below}
use Rattle.axis.specs.Flags.{normal}
use Rattle.axis.specs.Handed.{Short}
use Rattle.build_properties.specs.declared.join.Join.{Join}
use Rattle.build_properties.specs.Properties.{join_of}
use Rattle.words.specs.Segment.{segment_size, pos_place, word_of_segment, segments_in, segment_from}
use Rattle.words.specs.Word.{word_at}

-- what a join asks of a segment, its other fields empty
abbrev pub asked : Segment → Segment
asked s = record {
  flags = normal;
  dir = Directions.None;
  pos = s.pos;
  delta = pos 0;
  min_coord = pos 0;
  max_coord = pos 0;
  height = pos 0;
  score = pos 0;
  len = pos 0;
  link = s.link;
  serif = s.serif;
  first = 0;
  last = 0;
  edge = s.edge;
  next = None;
}

-- the segment whose words are the i-th
abbrev pub words_of : List ℤ → ℕ → Segment
words_of ws i = segment_from ws (segment_size * i)

-- the position of every segment is a 16-bit number as it stands
abbrev pub Shorts : List ℤ → Type 0
Shorts ws = (i : ℕ) → i < segments_in ws → Short (word_at ws (word_of_segment i pos_place))

-- what is asked of the segment that an index names, and without an index the segment's own
abbrev pub named_in : List ℤ → Segment → Link → Segment
named_in ws own None = own
named_in ws own (Some i) = asked (words_of ws i)

-- a segment of the words, whose link and serif are segments of them
pub record Naming (ws : List ℤ) (ix : ℕ) : Type 0 where
  pub inside : ix < segments_in ws
  pub link : Below (segments_in ws) (words_of ws ix).link
  pub serif : Below (segments_in ws) (words_of ws ix).serif

-- what segment ix of edge k asks for
abbrev pub join_in : List ℤ → ℕ → ℕ → Join
join_in ws k ix = let s = asked (words_of ws ix) in join_of k s (named_in ws s s.serif) (named_in ws s s.link)
