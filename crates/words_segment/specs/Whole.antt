-- Lists of words that are the words of their segments, and what they become where a segment is written.
use Rattle.std.specs.Prelude.{None, Some}
use Rattle.std.specs.Prelude.{List, ℕ, ℤ, pos}
use Rattle.axis.specs.Link.{Link}
use Rattle.axis.specs.declared.segment.Segment.{Segment}
use Rattle.axis.specs.declared.segment.Segments.{Segments}
use Rattle.axis.specs.Flags.{normal}
use Rattle.axis.specs.Segment.{segment_at, put_segment}
use Rattle.link.specs.Pairs.{relinked, serif_of}
use Rattle.build_mark.specs.Marks.{ringed}
use Rattle.words.specs.Segment.{flat_segments}
use Rattle.words.specs.Record.{segment_layout, WholeOf, BecameOf}

-- no more than the table holds, nothing behind the last, and word for word those that the segments read from them are written as
abbrev pub Whole : List ℤ → Type 0
Whole = WholeOf segment_layout

-- the table of lent segments, which is read with nothing else
abbrev pub table_in : List ℤ → Unit {0} → Segments
table_in ws d = flat_segments ws

-- they stay the words of their segments, as many, and the table is what f makes of it
abbrev pub Became : (Segments → Segments) → List ℤ → List ℤ → Type 0
Became = BecameOf segment_layout table_in

-- segment i linked to another one by a stem of a score and a length; and without its link, a serif of what `serif` names
abbrev pub joining : ℕ → ℤ → ℤ → ℕ → Segments → Segments
joining i score len ix t = put_segment t i (relinked (segment_at t i) score len (Some ix) (segment_at t i).serif)

abbrev pub loosing : ℕ → Link → Segments → Segments
loosing i serif t = put_segment t i (serif_of (segment_at t i) serif)

-- and one of the edge that `edge` names
abbrev pub leading : ℕ → Link → Segments → Segments
leading i edge t = put_segment t i (ringed (segment_at t i) edge (segment_at t i).next)

-- and with the next that `next` names
abbrev pub ringing : ℕ → Link → Link → Segments → Segments
ringing i edge next t = put_segment t i (ringed (segment_at t i) edge next)

-- what linking reads of a segment, its other fields empty
abbrev pub reduced : Segment → Segment
reduced s = record {
  flags = normal;
  dir = s.dir;
  pos = s.pos;
  delta = pos 0;
  min_coord = s.min_coord;
  max_coord = s.max_coord;
  height = pos 0;
  score = s.score;
  len = s.len;
  link = s.link;
  serif = s.serif;
  first = 0;
  last = 0;
  edge = None;
  next = None;
}
