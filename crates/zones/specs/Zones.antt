-- Edges put on their blue zones (document 01, module 5), as the Rust's `align_edges_to_blues` visits them; `zones_table` has the pass, `zones_table` the call.
use Rattle.std.specs.Prelude.{None, Some}
use Rattle.std.specs.Prelude.{Bool, true, false, cond, ◌&&◌, List, ℕ, ℤ}
use Rattle.fixed.specs.declared.width.WidthRule.{WidthRule}
use Rattle.axis.specs.declared.flags.Flags.{Flags}
use Rattle.axis.specs.Link.{Link}
use Rattle.axis.specs.Link.{Blue}
use Rattle.axis.specs.declared.kinds.Mark.{Mark}
use Rattle.axis.specs.declared.kinds.Mark.TheVariants as Marks
use Rattle.axis.specs.declared.edge.Edge.{Edge}
use Rattle.axis.specs.declared.edge.Axis.{Axis}
use Rattle.axis.specs.Edge.{edge_at, put_edge, changed, finished, fixed_at, has_blue}
use Rattle.place.specs.Placing.{linked_edge}

-- ---- zones
-- the flags without `neutral`
abbrev pub not_neutral : Flags → Flags
not_neutral f = record { round = f.round; serif = f.serif; done = f.done; neutral = false }

-- the edge without its zone, and no longer neutral
abbrev pub unzoned : Edge → Edge
unzoned e = changed e e.pos e.mark (not_neutral e.flags) None e.link e.serif e.last

-- where edge i and its link k both have a zone, one that is neutral is skipped: the link's, or else the edge's own
unfoldable pub skipped : Axis → ℕ → ℕ → Axis
skipped axis i k =
    cond (has_blue (edge_at axis i).blue && has_blue (edge_at axis k).blue)
    (cond (edge_at axis k).flags.neutral
    (put_edge axis k (unzoned (edge_at axis k)))
    (cond (edge_at axis i).flags.neutral (put_edge axis i (unzoned (edge_at axis i))) axis))
    axis

-- what a zone gives an edge its position as: the first one that a pass finds, while it has no anchor, is the blue anchor
unfoldable pub zone_mark : Link → Mark
zone_mark None = Marks.BlueAnchor
zone_mark (Some k) = Marks.Blue

-- the edge at the zone's fitted position, done; one that was done already keeps its mark
abbrev pub zoned_edge : Link → Edge → ℤ → Edge
zoned_edge anchor e z = fixed_at e z (cond e.flags.done e.mark (zone_mark anchor))

-- edge i so
abbrev pub on_zone : Axis → Link → ℕ → ℤ → Axis
on_zone axis anchor i z = put_edge axis i (zoned_edge anchor (edge_at axis i) z)

-- edge j, linked to edge i on its zone, aligned and done, where it has no zone of its own
unfoldable pub link_aligned : WidthRule → List ℤ → Axis → ℕ → ℕ → Axis
link_aligned rule xs axis i j =
    cond (has_blue (edge_at axis j).blue) axis (put_edge axis j (finished (linked_edge rule xs (edge_at axis i) (edge_at axis j))))

-- ---- the visits
-- the axis, and the anchor or its absence
pub record State : Type 0 where
  pub axis : Axis
  pub anchor : Link

-- the anchor is the first edge whose visit found a zone, even where its linked edge took it
unfoldable pub anchor_first : Link → ℕ → Link
anchor_first None i = Some i
anchor_first (Some k) i = Some k

-- an edge without link goes to its zone, where it has one
unfoldable pub visit_alone : State → ℕ → Blue → State
visit_alone s i None = s
visit_alone s i (Some z) = record { axis = on_zone s.axis s.anchor i z; anchor = anchor_first s.anchor i }

-- edge i, linked to edge k, by the zones of the two: it goes to its own, or else the link goes to the link's, and the other is aligned behind it
unfoldable pub visit_pair : WidthRule → List ℤ → State → ℕ → ℕ → Blue → Blue → State
visit_pair rule xs s i k (Some z) y = record { axis = link_aligned rule xs (on_zone s.axis s.anchor i z) i k; anchor = anchor_first s.anchor i }
visit_pair rule xs s i k None (Some z) = record { axis = link_aligned rule xs (on_zone s.axis s.anchor k z) k i; anchor = anchor_first s.anchor i }
visit_pair rule xs s i k None None = s

-- the same, by the zones that the two have in the state
abbrev pub then_pair : WidthRule → List ℤ → State → ℕ → ℕ → State
then_pair rule xs s i k = visit_pair rule xs s i k (edge_at s.axis i).blue (edge_at s.axis k).blue

-- edge i by its link: with one, a neutral zone is skipped first
unfoldable pub visit_link : WidthRule → List ℤ → State → ℕ → Link → State
visit_link rule xs s i None = visit_alone s i (edge_at s.axis i).blue
visit_link rule xs s i (Some k) = then_pair rule xs (record { axis = skipped s.axis i k; anchor = s.anchor }) i k

-- an edge that is done is passed over
unfoldable pub visit : WidthRule → List ℤ → State → ℕ → State
visit rule xs s i = cond (edge_at s.axis i).flags.done s (visit_link rule xs s i (edge_at s.axis i).link)
