-- Edges, and the table of an axis.
use Rattle.std.specs.Prelude.{None, Some}
use Rattle.std.specs.Prelude.{Bool, true, false, ℕ, ℤ, pos, get_or, set, replicate}
use Rattle.axis.specs.declared.edge.Edge.{Edge}
use Rattle.axis.specs.declared.edge.Axis.{Axis}
use Rattle.axis.specs.declared.kinds.Dimension.{Dimension}
use Rattle.axis.specs.declared.kinds.Direction.{Direction}
use Rattle.axis.specs.declared.kinds.Direction.TheVariants as Directions
use Rattle.axis.specs.declared.flags.Flags.{Flags}
use Rattle.axis.specs.Link.{Blue}
use Rattle.axis.specs.Link.{Link}
use Rattle.axis.specs.declared.kinds.Mark.{Mark}
use Rattle.axis.specs.declared.kinds.Mark.TheVariants as Marks
use Rattle.axis.specs.Limits.{most_edges}
use Rattle.axis.specs.Flags.{normal, as_done}

-- a new edge at a font position and a position in units, with a direction and its only segment: nothing special, without zone, link and serif, placed by nothing yet
abbrev pub fresh_edge : ℤ → ℤ → Direction → ℕ → Edge
fresh_edge f o d i =
    record { fpos = f; opos = o; pos = o; flags = normal; dir = d; blue = None; link = None; serif = None; first = i; last = i; mark = Marks.Nothing }

-- the edge of an unused place
abbrev pub empty_edge : Edge
empty_edge = fresh_edge (pos 0) (pos 0) Directions.None 0

-- an axis without edges
abbrev pub empty_axis : Dimension → Direction → Axis
empty_axis dim major = record { dim = dim; major_dir = major; edges = replicate most_edges empty_edge; len = 0 }

-- the edge in a place of the table
abbrev pub edge_at : Axis → ℕ → Edge
edge_at axis i = get_or axis.edges i empty_edge

-- the axis with another edge in a place
abbrev pub put_edge : Axis → ℕ → Edge → Axis
put_edge axis i e = record { dim = axis.dim; major_dir = axis.major_dir; edges = set axis.edges i e; len = axis.len }

-- there is a blue zone
unfoldable pub has_blue : Blue → Bool
has_blue None = false
has_blue (Some z) = true

-- ---- an edge of which something is changed
-- the edge with this position and what gave it, these flags, zone, link and serif, and this last segment; nothing else of an edge is ever changed
abbrev pub changed : Edge → ℤ → Mark → Flags → Blue → Link → Link → ℕ → Edge
changed e p m f b k s l = record { fpos = e.fpos; opos = e.opos; pos = p; flags = f; dir = e.dir; blue = b; link = k; serif = s; first = e.first; last = l; mark = m }

-- at a position, and marked with what gave it
abbrev pub placed : Edge → ℤ → Mark → Edge
placed e p m = changed e p m e.flags e.blue e.link e.serif e.last

-- with these flags
abbrev pub flagged : Edge → Flags → Edge
flagged e f = changed e e.pos e.mark f e.blue e.link e.serif e.last

-- placed for good
abbrev pub finished : Edge → Edge
finished e = flagged e (as_done e.flags)

-- at a position, for good, and marked with what gave it
abbrev pub fixed_at : Edge → ℤ → Mark → Edge
fixed_at e p m = finished (placed e p m)

-- with this link and this serif
abbrev pub joined_to : Edge → Link → Link → Edge
joined_to e k s = changed e e.pos e.mark e.flags e.blue k s e.last

-- with another last segment
abbrev pub with_last : Edge → ℕ → Edge
with_last e l = changed e e.pos e.mark e.flags e.blue e.link e.serif l
