-- The properties of edges (document 01, module 4; the Rust's `compute_edge_properties`): each edge in turn is visited by the segments of its ring, in their
-- order. A visit reads the table that the visits before it left.
use Rattle.std.specs.Prelude.{None, Some}
use Rattle.std.specs.Prelude.{Bool, true, false, cond, not, ◌&&◌, List, [], ◌∷◌, ℕ, zero, suc, ◌+◌, eqb, ltb, leb, ℤ, pos}
use Rattle.std.specs.Int.Signed.{lt_z}
use Rattle.signed.specs.Distance.{distance}
use Rattle.axis.specs.Link.{Link}
use Rattle.axis.specs.declared.edge.Axis.{Axis}
use Rattle.axis.specs.declared.edge.Edge.{Edge}
use Rattle.axis.specs.declared.segment.Segment.{Segment}
use Rattle.axis.specs.declared.segment.Segments.{Segments}
use Rattle.axis.specs.Edge.{edge_at, put_edge, flagged, joined_to}
use Rattle.axis.specs.Link.{index_or}
use Rattle.axis.specs.Ring.{members}
use Rattle.axis.specs.Segment.{segment_at}
use Rattle.build_properties.specs.declared.join.Join.{Join}

-- ---- what a segment asks of its edge
-- the edge of the segment that an index names, and none without an index
abbrev pub named_edge : Link → Segment → Link
named_edge None named = None
named_edge (Some ix) named = named.edge

-- an edge, and another one than k
abbrev pub is_other : ℕ → Link → Bool
is_other k None = false
is_other k (Some e) = not (eqb e k)

-- a segment of edge k, with the segments that it names as serif and as link, asks for the serif's edge where that is another one than k, and else for the
-- link's edge, if any
unfoldable pub join_of : ℕ → Segment → Segment → Segment → Join
join_of k s serif link =
    cond (is_other k (named_edge s.serif serif))
    (record { is_serif = true; edge = named_edge s.serif serif; delta = pos (distance s.pos serif.pos) })
    (record { is_serif = false; edge = named_edge s.link link; delta = pos (distance s.pos link.pos) })

-- the same of segment ix of a table; where it names none, it stands there itself, and `named_edge` passes it over
unfoldable pub join_at : Segments → ℕ → ℕ → Join
join_at t k ix = join_of k (segment_at t ix) (segment_at t (index_or ix (segment_at t ix).serif)) (segment_at t (index_or ix (segment_at t ix).link))

-- ---- one segment of edge k
-- the edge with SERIF set
abbrev pub as_serif : Edge → Edge
as_serif e = flagged e (record { round = e.flags.round; serif = true; done = e.flags.done; neutral = e.flags.neutral })

-- the edge q that is asked for, or the one that e has: q where it has none, or where the segments are nearer than the edges
unfoldable pub chosen : Axis → Edge → ℤ → ℕ → Link → ℕ
chosen axis e delta q None = q
chosen axis e delta q (Some o) = cond (lt_z delta (pos (distance e.fpos (edge_at axis o).fpos))) q o

-- SERIF is set on edge w
abbrev pub set_serif : ℕ → Axis → Axis
set_serif w axis = put_edge axis w (as_serif (edge_at axis w))

-- edge k has edge w as its serif, and SERIF is set on that one
abbrev pub put_serif : ℕ → ℕ → Axis → Axis
put_serif k w axis = set_serif w (put_edge axis k (joined_to (edge_at axis k) (edge_at axis k).link (Some w)))

-- edge k has edge w as its link
abbrev pub put_link : ℕ → ℕ → Axis → Axis
put_link k w axis = put_edge axis k (joined_to (edge_at axis k) (Some w) (edge_at axis k).serif)

-- an edge that is asked for, in the way that it is
unfoldable pub join_by : ℕ → Bool → ℤ → Link → Axis → Axis
join_by k is-serif delta None axis = axis
join_by k is-serif delta (Some q) axis =
    cond is-serif
    (put_serif k (chosen axis (edge_at axis k) delta q (edge_at axis k).serif) axis)
    (put_link k (chosen axis (edge_at axis k) delta q (edge_at axis k).link) axis)

-- the visit of segment ix
unfoldable pub member : Segments → ℕ → ℕ → Axis → Axis
member t k ix axis = join_by k (join_at t k ix).is_serif (join_at t k ix).delta (join_at t k ix).edge axis

-- ---- all segments of edge k
-- their visits in order
unfoldable pub visits : Segments → ℕ → List ℕ → Axis → Axis
visits t k [] axis = axis
visits t k (ix ∷ ms) axis = visits t k ms (member t k ix axis)

-- how many are round
unfoldable pub roundness : Segments → List ℕ → ℕ
roundness t [] = 0
roundness t (ix ∷ ms) = cond (segment_at t ix).flags.round 1 0 + roundness t ms

-- how many are straight
unfoldable pub straightness : Segments → List ℕ → ℕ
straightness t [] = 0
straightness t (ix ∷ ms) = cond (segment_at t ix).flags.round 0 1 + straightness t ms

-- some are round, and not fewer than are straight
abbrev pub is_round : ℕ → ℕ → Bool
is_round round straight = ltb 0 round && leb straight round

-- the serif that stays beside a link
abbrev pub serif_beside : Link → Link → Link
serif_beside None serif = serif
serif_beside (Some k) serif = None

-- the edge at the end of its visit: of its flags only ROUND can be set, and a serif is dropped where a link is
unfoldable pub with_properties : ℕ → ℕ → Edge → Edge
with_properties round straight e =
    flagged (joined_to e e.link (serif_beside e.link e.serif)) (record { round = is_round round straight; serif = false; done = false; neutral = false })

-- the visit of edge k by these segments
unfoldable pub visit : Segments → ℕ → List ℕ → Axis → Axis
visit t k ms axis = put_edge (visits t k ms axis) k (with_properties (roundness t ms) (straightness t ms) (edge_at (visits t k ms axis) k))

-- ---- all edges
-- the visits of the first k
unfoldable pub edges : Segments → ℕ → Axis → Axis
edges t zero axis = axis
edges t (suc k) axis = visit t k (members (edges t k axis) t k) (edges t k axis)

-- the visits of all
unfoldable pub edge_properties : Axis → Segments → Axis
edge_properties axis t = edges t axis.len axis
