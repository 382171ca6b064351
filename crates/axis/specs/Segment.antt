-- Segments, and their table.
use Rattle.std.specs.Prelude.{None}
use Rattle.std.specs.Prelude.{ℕ, pos, get_or, set, replicate}
use Rattle.axis.specs.declared.segment.Segment.{Segment}
use Rattle.axis.specs.declared.segment.Segments.{Segments}
use Rattle.axis.specs.declared.kinds.Direction.TheVariants as Directions
use Rattle.axis.specs.Limits.{most_segments}
use Rattle.axis.specs.Flags.{normal}

-- the segment of an unused place
abbrev pub empty_segment : Segment
empty_segment = record {
  flags = normal;
  dir = Directions.None;
  pos = pos 0;
  delta = pos 0;
  min_coord = pos 0;
  max_coord = pos 0;
  height = pos 0;
  score = pos 0;
  len = pos 0;
  link = None;
  serif = None;
  first = 0;
  last = 0;
  edge = None;
  next = None;
}

-- a table without segments
abbrev pub empty_segments : Segments
empty_segments = record { segments = replicate most_segments empty_segment; len = 0 }

-- the segment in a place of the table
abbrev pub segment_at : Segments → ℕ → Segment
segment_at t i = get_or t.segments i empty_segment

-- the table with another segment in a place
abbrev pub put_segment : Segments → ℕ → Segment → Segments
put_segment t i s = record { segments = set t.segments i s; len = t.len }
