-- Remaining edges in place: what is read of an edge, its stores as what they make of an axis, and the loops by the definition of `remaining`.
use Rattle.std.specs.Prelude.{None}
use Rattle.std.specs.Prelude.{◌≡◌, List, ℕ, ◌<◌, length, ℤ}
use Rattle.axis.specs.declared.kinds.Dimension.{Dimension}
use Rattle.axis.specs.declared.kinds.Direction.TheVariants as Directions
use Rattle.axis.specs.declared.kinds.Group.{Group}
use Rattle.axis.specs.declared.kinds.Mark.{Mark}
use Rattle.axis.specs.declared.kinds.Mark.TheVariants as Marks
use Rattle.axis.specs.declared.edge.Edge.{Edge}
use Rattle.axis.specs.declared.edge.Axis.{Axis}
use Rattle.axis.specs.Limits.{most_pos}
use Rattle.axis.specs.Accepted.{Below, AxisWithin}
use Rattle.words.specs.Edge.{edges_in}
use Rattle.words_call.specs.Lent.{edges_of}
use Rattle.words_edge.specs.Whole.{Whole, axis_in}
use Rattle.remaining.specs.declared.kinds.Progress.{Progress}
use Rattle.remaining.specs.declared.kinds.Round.{Round}
use Rattle.remaining.specs.declared.kinds.Way.{Way}
use Rattle.remaining.specs.declared.kinds.Way.TheVariants as Ways
use Rattle.remaining.specs.Remaining.{State, state, stored, visited, pass_of}

-- what a visit reads of an edge, its other fields empty
abbrev pub asked : Edge → Edge
asked e = record {
  fpos = e.fpos;
  opos = e.opos;
  pos = e.pos;
  flags = e.flags;
  dir = Directions.None;
  blue = None;
  link = None;
  serif = e.serif;
  first = 0;
  last = 0;
  mark = Marks.Nothing;
}

-- ---- the stores
-- edge i given a position as its plan says
abbrev pub storing : Way → ℕ → ℤ → Mark → Axis → Axis
storing way i p m axis = stored way axis i p m

abbrev pub holding : ℕ → ℤ → Mark → Axis → Axis
holding = storing Ways.Held

-- ---- the loops
-- what they may use: words that are those of their edges, accepted edges, and an anchor that is one of them
pub record ReadyPass (ws : List ℤ) (past : Progress) : Type 0 where
  pub whole : Whole ws
  pub axis : AxisWithin most_pos (edges_of ws)
  pub anchor : Below (edges_in ws) past.anchor

-- and an edge to visit
pub record Ready (ws : List ℤ) (past : Progress) (i : ℕ) : Type 0 where
  pub whole : Whole ws
  pub axis : AxisWithin most_pos (edges_of ws)
  pub anchor : Below (edges_in ws) past.anchor
  pub below : i < edges_in ws

-- every edge visited, and all loops
abbrev pub visiting : Round → State → State
visiting round s = visited round s

abbrev pub passing : Group → State → State
passing group s = pass_of group s

-- the words are still those of their edges, as many, and still accepted, and on every dimension they and the values are what the loops make of the state that they were
pub record Passed (loops : State → State) (past r : Progress) (ws ws' : List ℤ) : Type 0 where
  pub whole : Whole ws'
  pub long : length ws' ≡ length ws
  pub axis : AxisWithin most_pos (edges_of ws')
  pub anchor : Below (edges_in ws') r.anchor
  pub states : (d : Dimension) → state (axis_in ws' d) r ≡ loops (state (axis_in ws d) past)
