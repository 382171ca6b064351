-- Lists of words that are the words of their edges, and what they become where an edge is written.
use Rattle.std.specs.Prelude.{None}
use Rattle.std.specs.Prelude.{List, ℕ, ℤ, pos}
use Rattle.axis.specs.declared.edge.Edge.{Edge}
use Rattle.axis.specs.declared.edge.Axis.{Axis}
use Rattle.axis.specs.declared.flags.Flags.{Flags}
use Rattle.axis.specs.Link.{Blue}
use Rattle.axis.specs.declared.kinds.Dimension.{Dimension}
use Rattle.axis.specs.declared.kinds.Direction.TheVariants as Directions
use Rattle.axis.specs.Link.{Link}
use Rattle.axis.specs.declared.kinds.Mark.{Mark}
use Rattle.axis.specs.declared.kinds.Mark.TheVariants as Marks
use Rattle.axis.specs.Edge.{edge_at, put_edge, changed, placed, flagged, fixed_at, joined_to}
use Rattle.words.specs.Edge.{flat_axis}
use Rattle.words.specs.Record.{edge_layout, WholeOf, BecameOf}

-- no more than the table holds, nothing behind the last, and word for word those that the edges read from them are written as
abbrev pub Whole : List ℤ → Type 0
Whole = WholeOf edge_layout

-- the axis of lent edges on a dimension, for a call that does not read its major direction
abbrev pub axis_in : List ℤ → Dimension → Axis
axis_in ws d = flat_axis ws d Directions.None

-- they stay the words of their edges, as many, and on every dimension the axis is what f makes of it
abbrev pub Became : (Axis → Axis) → List ℤ → List ℤ → Type 0
Became = BecameOf edge_layout axis_in

-- edge i at a position, and what gave it; and that for good
abbrev pub placing : ℕ → ℤ → Mark → Axis → Axis
placing i p m axis = put_edge axis i (placed (edge_at axis i) p m)

abbrev pub fixing : ℕ → ℤ → Mark → Axis → Axis
fixing i p m axis = put_edge axis i (fixed_at (edge_at axis i) p m)

-- with these flags
abbrev pub flagging : ℕ → Flags → Axis → Axis
flagging i f axis = put_edge axis i (flagged (edge_at axis i) f)

-- an edge with this zone or none, and edge i with none
abbrev pub zoned : Edge → Blue → Edge
zoned e b = changed e e.pos e.mark e.flags b e.link e.serif e.last

abbrev pub unzoning : ℕ → Axis → Axis
unzoning i axis = put_edge axis i (zoned (edge_at axis i) None)

-- with this link, and with this serif
abbrev pub linking : ℕ → Link → Axis → Axis
linking i link axis = put_edge axis i (joined_to (edge_at axis i) link (edge_at axis i).serif)

abbrev pub serifing : ℕ → Link → Axis → Axis
serifing i serif axis = put_edge axis i (joined_to (edge_at axis i) (edge_at axis i).link serif)

-- an edge with this first segment and this last one
abbrev pub ended : Edge → ℕ → ℕ → Edge
ended e f l =
    record { fpos = e.fpos; opos = e.opos; pos = e.pos; flags = e.flags; dir = e.dir; blue = e.blue; link = e.link; serif = e.serif; first = f; last = l; mark = e.mark }

-- what fitting reads of an edge, its other fields empty
abbrev pub reduced : Edge → Edge
reduced e = record {
  fpos = pos 0;
  opos = e.opos;
  pos = e.pos;
  flags = e.flags;
  dir = Directions.None;
  blue = e.blue;
  link = e.link;
  serif = None;
  first = 0;
  last = 0;
  mark = Marks.Nothing;
}
