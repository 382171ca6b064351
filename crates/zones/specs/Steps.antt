-- What the steps of the pass promise each other: a visit along one path, with the edge itself where it has no link. `steps-are` shows that steps are visits.
use Rattle.std.specs.Prelude.{None, Some}
use Rattle.std.specs.Prelude.{Bool, not, cond, ◌&&◌, List, ℕ, ℤ}
use Rattle.fixed.specs.declared.width.WidthRule.{WidthRule}
use Rattle.axis.specs.Link.{Link}
use Rattle.axis.specs.Link.{Blue}
use Rattle.axis.specs.declared.edge.Edge.{Edge}
use Rattle.axis.specs.declared.edge.Axis.{Axis}
use Rattle.axis.specs.Link.{is_linked, index_or}
use Rattle.axis.specs.Edge.{edge_at, put_edge, finished, has_blue}
use Rattle.place.specs.Placing.{linked_edge}
use Rattle.zones.specs.Zones.{unzoned, on_zone, State, anchor_first}

-- the edge, without its zone where that is skipped
unfoldable pub thinned : Bool → Edge → Edge
thinned skip e = cond skip (unzoned e) e

-- the edge e and its link f both have a zone
unfoldable pub both_zoned : Edge → Edge → Bool
both_zoned e f = is_linked e.link && (has_blue e.blue && has_blue f.blue)

-- the link's zone is skipped where it is neutral, else the edge's own where that is
unfoldable pub loses_link : Edge → Edge → Bool
loses_link e f = both_zoned e f && f.flags.neutral

unfoldable pub loses_own : Edge → Edge → Bool
loses_own e f = both_zoned e f && (not f.flags.neutral && e.flags.neutral)

-- the edge's own zone, or else the link's
unfoldable pub zone_of : Blue → Blue → Blue
zone_of None y = y
zone_of (Some x) y = Some x

-- the stem edge, aligned to the base edge and done where it has no zone
unfoldable pub linked_or_zoned : WidthRule → List ℤ → Edge → Edge → Edge
linked_or_zoned rule xs base stem = cond (has_blue stem.blue) stem (finished (linked_edge rule xs base stem))

-- edge i of the axis so
abbrev pub thin_at : Axis → ℕ → Bool → Axis
thin_at axis i skip = put_edge axis i (thinned skip (edge_at axis i))

-- of edge i and its link k, one may lose its zone
abbrev pub thin_both : Axis → ℕ → ℕ → Axis
thin_both axis i k = thin_at (thin_at axis i (loses_own (edge_at axis i) (edge_at axis k))) k (loses_link (edge_at axis i) (edge_at axis k))

-- edge `two` of the axis aligned so to edge `one`
abbrev pub link_at : WidthRule → List ℤ → Axis → ℕ → ℕ → Axis
link_at rule xs axis one two = put_edge axis two (linked_or_zoned rule xs (edge_at axis one) (edge_at axis two))

-- edge i is put on the zone, or its link k where only that has one
unfoldable pub by_zone : WidthRule → List ℤ → Axis → Link → ℕ → ℕ → Blue → State
by_zone rule xs axis a i k None = record { axis = axis; anchor = a }
by_zone rule xs axis a i k (Some z) = record {
  axis = link_at rule xs (on_zone axis a (cond (has_blue (edge_at axis i).blue) i k) z) (cond (has_blue (edge_at axis i).blue) i k) (cond (has_blue (edge_at axis i).blue) k i);
  anchor = anchor_first a i;
}

-- the step of edge i with the edge k: a zone is skipped, then the zone that is left decides
abbrev pub step_by : WidthRule → List ℤ → State → ℕ → ℕ → State
step_by rule xs s i k = by_zone rule xs (thin_both s.axis i k) s.anchor i k (zone_of (edge_at (thin_both s.axis i k) i).blue (edge_at (thin_both s.axis i k) k).blue)

-- the step of edge i
unfoldable pub step : WidthRule → List ℤ → State → ℕ → State
step rule xs s i = cond (edge_at s.axis i).flags.done s (step_by rule xs s i (index_or i (edge_at s.axis i).link))
