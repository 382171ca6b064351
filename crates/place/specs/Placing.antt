-- How one edge is placed (document 01, module 5): by its link, by its serif, by its neighbours.
use Rattle.std.specs.Prelude.{None, Some}
use Rattle.std.specs.Prelude.{Bool, cond, ◌&&◌, List, ℕ, zero, suc, ◌+◌, ltb, ℤ, nat_abs, ◌+ℤ◌, ◌-ℤ◌}
use Rattle.std.specs.Int.Signed.{lt_z}
use Rattle.fixed.specs.declared.width.WidthRule.{WidthRule}
use Rattle.fixed.specs.Width.{fitted_width}
use Rattle.axis.specs.Link.{Link}
use Rattle.axis.specs.declared.kinds.Mark.TheVariants.{Linked, Bound, Serif}
use Rattle.axis.specs.declared.edge.Edge.{Edge}
use Rattle.axis.specs.declared.edge.Axis.{Axis}
use Rattle.axis.specs.Edge.{edge_at, put_edge, placed}
use Rattle.place.specs.declared.adjust.LinkDir.{LinkDir}
use Rattle.place.specs.declared.adjust.LinkDir.TheVariants.{Prev, Next}

-- two edges named in a call are below the edge count
abbrev pub both_below : ℕ → ℕ → ℕ → Bool
both_below n i j = ltb i n && ltb j n

-- ---- the linked edge
-- its fitted width from the base edge
unfoldable pub linked_pos : WidthRule → List ℤ → ℤ → ℤ → ℤ → ℤ
linked_pos rule xs base_pos base_opos stem_opos = base_pos +ℤ fitted_width rule xs (stem_opos -ℤ base_opos)

-- the stem edge there, its flags as they were
abbrev pub linked_edge : WidthRule → List ℤ → Edge → Edge → Edge
linked_edge rule xs base stem = placed stem (linked_pos rule xs base.pos base.opos stem.opos) Linked

-- ---- the serif edge
-- as far from the base edge as it was
unfoldable pub serif_pos : ℤ → ℤ → ℤ → ℤ
serif_pos base_pos base_opos serif_opos = base_pos +ℤ (serif_opos -ℤ base_opos)

-- the serif edge there, its flags as they were
abbrev pub serif_edge : Edge → Edge → Edge
serif_edge base serif = placed serif (serif_pos base.pos base.opos serif.opos) Serif

-- ---- the bounds
-- the edge before, where there is one
unfoldable pub lower_bound : ℕ → Link
lower_bound zero = None
lower_bound (suc i) = Some i

-- the edge behind, where there is one and it is done
unfoldable pub upper_bound : Axis → ℕ → Link
upper_bound axis i = cond (ltb (i + 1) axis.len && (edge_at axis (i + 1)).flags.done) (Some (i + 1)) None

-- ---- the adjustment
-- an edge at p has passed its neighbour at q: it is below the previous or above the next one
unfoldable pub has_passed : LinkDir → ℤ → ℤ → Bool
has_passed Prev p q = lt_z p q
has_passed Next p q = lt_z q p

-- two positions are more than 16 apart
abbrev pub is_far : ℤ → ℤ → Bool
is_far p q = ltb 16 (nat_abs (p -ℤ q))

-- the neighbour that the edge is held to: the previous edge, or the next one where it is done
unfoldable pub neighbour : LinkDir → Axis → ℕ → Link
neighbour Prev axis i = lower_bound i
neighbour Next axis i = upper_bound axis i

-- the edge takes the position of its neighbour k, where its link is far from the previous edge h, in both directions
unfoldable pub held_to : Axis → ℕ → ℕ → ℕ → Link → Axis
held_to axis h i k None = axis
held_to axis h i k (Some l) = cond (is_far (edge_at axis l).pos (edge_at axis h).pos) (put_edge axis i (placed (edge_at axis i) (edge_at axis k).pos Bound)) axis

-- where it has passed the neighbour
unfoldable pub bound_by : Axis → ℕ → ℕ → LinkDir → Link → Axis
bound_by axis h i dir None = axis
bound_by axis h i dir (Some k) = cond (has_passed dir (edge_at axis i).pos (edge_at axis k).pos) (held_to axis h i k (edge_at axis i).link) axis

-- the first edge has no previous one, and stays
unfoldable pub adjusted : Axis → ℕ → LinkDir → Axis
adjusted axis zero dir = axis
adjusted axis (suc h) dir = bound_by axis h (suc h) dir (neighbour dir axis (suc h))
