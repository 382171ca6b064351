-- What the steps of the row need and leave.
use Rattle.std.specs.Prelude.{None}
use Rattle.std.specs.Prelude.{◌≡◌, Bool, true, false, ◌&&◌, List, ◌⊎◌, ℕ, ◌≤◌, ◌<◌, length, ℤ, pos}
use Rattle.refusals.specs.Refusal.{refusal}
use Rattle.axis.specs.Link.{Link}
use Rattle.axis.specs.declared.edge.Edge.{Edge}
use Rattle.axis.specs.declared.edge.Axis.{Axis}
use Rattle.axis.specs.Accepted.{Below}
use Rattle.axis.specs.Edge.{edge_at}
use Rattle.axis.specs.Handed.{EdgesAccepted}
use Rattle.axis.specs.Limits.{most_edges, most_pos, most_units}
use Rattle.axis.specs.Refusals.{inside, within, blue_holds, every_edge, edges_indexed, edges_short}
use Rattle.zones_stems.specs.Joined.{joined_tests}
use Rattle.words.specs.Edge.{edges_in, edges_over}
use Rattle.words_call.specs.Lent.{edges_of}
use Rattle.words_edge.specs.Whole.{Whole, axis_in}
use Rattle.stems_words.specs.declared.pass.Passed.{Passed}
use Rattle.fit.specs.declared.numbers.Numbers.{Numbers}
use Rattle.fit.specs.Answer.{FittedEdges}
use Rattle.fit.specs.Edges.{Left, stems_on}

-- ---- positions
-- the position of an edge is accepted, and what else is tested of its numbers
abbrev pub pos_holds : Edge → Bool
pos_holds e = within most_pos e.pos

abbrev pub others_hold : Edge → Bool
others_hold e = within most_units e.opos && blue_holds e.blue

-- so it is of every edge
unfoldable pub positions_hold : Axis → Bool
positions_hold axis = every_edge pos_holds axis

-- edges that are accepted but for their positions
pub record Loose (axis : Axis) : Type 0 where
  pub short : (edges_short axis).holds ≡ true
  pub indexed : (edges_indexed axis).holds ≡ true
  pub others : every_edge others_hold axis ≡ true

-- ---- what a step leaves of edges
-- indices and the original position; a zone can only go
pub record KinEdge (old new : Edge) : Type 0 where
  pub opos : new.opos ≡ old.opos
  pub link : new.link ≡ old.link
  pub serif : new.serif ≡ old.serif
  pub first : new.first ≡ old.first
  pub last : new.last ≡ old.last
  pub blue : (new.blue ≡ old.blue) ⊎ (new.blue ≡ None)

pub record Kin (old new : Axis) : Type 0 where
  pub len : new.len ≡ old.len
  pub edge : (i : ℕ) → KinEdge (edge_at old i) (edge_at new i)

-- ---- what a step may use
-- the guard's least width is accepted
abbrev pub LeastHolds : Numbers → Type 0
LeastHolds n = inside (pos 0) (pos most_units) n.least ≡ true

-- the words that the row begins with: no test of the call on blue zones and stems refuses their edges
pub record Begun (n : Numbers) (xs ws : List ℤ) : Type 0 where
  pub whole : Whole ws
  pub tests : refusal (joined_tests (axis_in ws n.dim) n.group false n.rule xs) ≡ 0
  pub least : LeastHolds n

-- those behind a step, the count of edges passed over and the anchor
pub record Ready (n : Numbers) (count : ℕ) (anchor : Link) (ws : List ℤ) : Type 0 where
  pub whole : Whole ws
  pub loose : Loose (edges_of ws)
  pub few : count ≤ most_edges
  pub anchored : Below (edges_in ws) anchor
  pub least : LeastHolds n

-- those whose positions are accepted
pub record Accepted (n : Numbers) (count : ℕ) (ws : List ℤ) : Type 0 where
  pub whole : Whole ws
  pub edges : EdgesAccepted (edges_of ws)
  pub few : count ≤ most_edges
  pub least : LeastHolds n

-- ---- what it makes
-- blue zones and stems: the words, the count and the anchor of that call
pub record Joined (n : Numbers) (xs : List ℤ) (r : Passed) (ws ws' : List ℤ) : Type 0 where
  pub whole : Whole ws'
  pub long : length ws' ≡ length ws
  pub words : ws' ≡ edges_over ws (stems_on n xs ws).axis
  pub count : r.count ≡ (stems_on n xs ws).count
  pub anchor : r.anchor ≡ (stems_on n xs ws).anchor
  pub few : r.count ≤ most_edges
  pub anchored : Below (edges_in ws') r.anchor
  pub kin : Kin (edges_of ws) (edges_of ws')

-- no count that is told is more than a table holds
pub record FewTold (r : FittedEdges) : Type 0 where
  pub passed : r.count ≤ most_edges
  pub gaps : r.gaps.count ≤ most_edges
  pub stems : r.gaps.stems ≤ most_edges
  pub undone : r.gaps.not_done ≤ most_edges

-- where nothing refuses: the words of the row, whose edges are accepted, and nothing else of them changed
pub record Gone (d : Left) (r : FittedEdges) (ws ws' : List ℤ) : Type 0 where
  pub words : ws' ≡ d.words
  pub whole : Whole ws'
  pub edges : EdgesAccepted (edges_of ws')
  pub few : FewTold r
  pub kin : Kin (edges_of ws) (edges_of ws')

-- the rest of the row d: what is told, and as many words
pub record Went (d : Left) (r : FittedEdges) (ws ws' : List ℤ) : Type 0 where
  pub told : r ≡ d.told
  pub long : length ws' ≡ length ws
  pub goes : r.answer ≡ 0 → Gone d r ws ws'
