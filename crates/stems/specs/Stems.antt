-- The stem pass (document 01, module 5), as the Rust's `align_stem_edges` visits the edges.
use Rattle.std.specs.Prelude.{None, Some}
use Rattle.std.specs.Prelude.{◌≡◌, Bool, cond, List, [], ◌∷◌, ℕ, ◌+◌, ltb, ℤ, pos, ◌+ℤ◌, ◌-ℤ◌}
use Rattle.std.specs.Int.Signed.{lt_z}
use Rattle.refusals.specs.Refusal.{Test, ◌unless◌, refusal, answered, bad_parameter, bad_index}
use Rattle.fixed.specs.declared.width.WidthRule.{WidthRule}
use Rattle.fixed.specs.Width.{rule_holds}
use Rattle.axis.specs.Link.{Link}
use Rattle.axis.specs.Link.{Blue}
use Rattle.axis.specs.declared.kinds.Group.{Group}
use Rattle.axis.specs.declared.kinds.Group.TheVariants.{Default, Cjk}
use Rattle.axis.specs.declared.kinds.Mark.{Mark}
use Rattle.axis.specs.declared.kinds.Mark.TheVariants as Marks
use Rattle.axis.specs.declared.edge.Edge.{Edge}
use Rattle.axis.specs.declared.edge.Axis.{Axis}
use Rattle.axis.specs.Edge.{edge_at, put_edge, finished, fixed_at}
use Rattle.axis.specs.Mark.{unmarked_axis}
use Rattle.axis.specs.Refusals.{link_holds, edges_short, bottom_to_top, edges_indexed, edges_in_range}
use Rattle.axis.specs.Visits.{visits}
use Rattle.place.specs.declared.adjust.LinkDir.TheVariants.{Prev}
use Rattle.place.specs.Placing.{linked_edge, adjusted}
use Rattle.stems_latin.specs.Latin.{anchored_first, anchored_second, free_first}
use Rattle.stems_cjk.specs.declared.stem.Stem.{Stem}
use Rattle.stems_cjk.specs.Cjk.{stem_of, hinted_stem}
use Rattle.stems.specs.declared.kinds.Mode.{Mode}
use Rattle.stems.specs.declared.kinds.Trail.{Trail}
use Rattle.stems.specs.Visit.{too_close, original_len, width_of, start_beside, delta_after}
use Rattle.stems.specs.Answer.{Stems}

-- ---- what the visits come to
-- the axis, how many edges were passed over, the anchor or its absence, and what CJK stems leave to the next one
pub record State : Type 0 where
  pub axis : Axis
  pub count : ℕ
  pub anchor : Link
  pub trail : Trail

-- an edge is passed over and counted
abbrev pub counted : State → State
counted s = record { axis = s.axis; count = s.count + 1; anchor = s.anchor; trail = s.trail }

-- edge i at a position, done, and marked with what gave it
abbrev pub fix_at : Axis → ℕ → ℤ → Mark → Axis
fix_at axis i p m = put_edge axis i (fixed_at (edge_at axis i) p m)

-- edge i at its fitted width from edge k, as `align_linked_edge` puts it, and done
abbrev pub fix_by_link : WidthRule → List ℤ → Axis → ℕ → ℕ → Axis
fix_by_link rule xs axis i k = put_edge axis i (finished (linked_edge rule xs (edge_at axis k) (edge_at axis i)))

-- edges i and k done
abbrev pub both_done : ℕ → ℕ → Axis → Axis
both_done i k axis = put_edge (put_edge axis i (finished (edge_at axis i))) k (finished (edge_at (put_edge axis i (finished (edge_at axis i))) k))

-- ---- a Latin stem, of edge i and its link k
-- both edges where a stem of start p, original length n and width w comes to lie beside an anchor, done and marked stem
abbrev pub centred_stem : Axis → ℕ → ℕ → ℤ → ℤ → ℤ → Axis
centred_stem axis i k p n w = fix_at (fix_at axis i (anchored_first p n w) Marks.Stem) k (anchored_second p n w) Marks.Stem

-- beside the anchor a: where edge k is done, edge i is adjusted to the width before it, else the stem's start is as far from the anchor as it was
unfoldable pub beside_anchor : WidthRule → List ℤ → Axis → ℕ → ℕ → ℕ → Axis
beside_anchor rule xs axis i k a =
    cond (edge_at axis k).flags.done
    (fix_at axis i ((edge_at axis k).pos -ℤ width_of rule xs (edge_at axis i) (edge_at axis k)) Marks.Adjusted)
    (centred_stem axis i k (start_beside (edge_at axis a) (edge_at axis i)) (original_len (edge_at axis i) (edge_at axis k)) (width_of rule xs (edge_at axis i) (edge_at axis k)))

-- where the first edge of the first, anchorless stem goes
abbrev pub free_pos : WidthRule → List ℤ → Edge → Edge → ℤ
free_pos rule xs e e2 = free_first e.opos (original_len e e2) (width_of rule xs e e2)

-- edge i at a position p, done and marked as the anchor, and edge k at its fitted width from it, as `align_linked_edge` puts it, not done
abbrev pub first_stem : WidthRule → List ℤ → Axis → ℕ → ℕ → ℤ → Axis
first_stem rule xs axis i k p =
    put_edge (fix_at axis i p Marks.Anchor) k (linked_edge rule xs (fixed_at (edge_at axis i) p Marks.Anchor) (edge_at (fix_at axis i p Marks.Anchor) k))

-- by the anchor: beside one, edge i is then held to the previous edge, as `adjust_link` does; with none, edge i becomes the anchor
unfoldable pub latin_stem : Mode → List ℤ → State → ℕ → ℕ → Link → State
latin_stem m xs s i k (Some a) = record { axis = adjusted (beside_anchor m.rule xs s.axis i k a) i Prev; count = s.count; anchor = s.anchor; trail = s.trail }
latin_stem m xs s i k None = record {
  axis = first_stem m.rule xs s.axis i k (free_pos m.rule xs (edge_at s.axis i) (edge_at s.axis k));
  count = s.count;
  anchor = Some i;
  trail = s.trail;
}

-- ---- a CJK stem, of edge i and its link k
-- where edge k is before edge i, that is placed by it, and the last stem is where edge i was
abbrev pub back_stem : Mode → List ℤ → State → ℕ → ℕ → State
back_stem m xs s i k = record {
  axis = fix_by_link m.rule xs s.axis i k;
  count = s.count;
  anchor = s.anchor;
  trail = record { last = Some (edge_at s.axis i).pos; delta = s.trail.delta };
}

-- where the second edge e2 of a stem goes
abbrev pub second_pos : Edge → Edge → Stem → ℤ
second_pos e e2 stem = cond (lt_z e.opos e2.opos) (stem.pos +ℤ stem.width) stem.pos

-- else both are placed as `hint_normal_stem_cjk` does, and done, edge i is the anchor, and the last stem is where edge k is
abbrev pub normal_stem : Mode → State → ℕ → ℕ → Stem → State
normal_stem m s i k stem = record {
  axis = both_done i k (hinted_stem s.axis i k stem);
  count = s.count;
  anchor = Some i;
  trail = record { last = Some (second_pos (edge_at s.axis i) (edge_at s.axis k) stem); delta = delta_after m.dim s.anchor s.trail.delta stem.delta };
}

-- by their order in the table
unfoldable pub cjk_stem : Mode → List ℤ → State → ℕ → ℕ → State
cjk_stem m xs s i k =
    cond (ltb k i)
    (back_stem m xs s i k)
    (normal_stem m s i k (stem_of m.dim m.stem_adjust m.rule xs (edge_at s.axis i) (edge_at s.axis k) s.trail.delta))

-- ---- one visit
-- a stem by the group
unfoldable pub group_stem : Group → Mode → List ℤ → State → ℕ → ℕ → State
group_stem Default m xs s i k = latin_stem m xs s i k s.anchor
group_stem Cjk m xs s i k = cjk_stem m xs s i k

-- by the zone of edge k: where it has one, edge i is placed by it, whatever the group
unfoldable pub zone_stem : Blue → Mode → List ℤ → State → ℕ → ℕ → State
zone_stem None m xs s i k = group_stem m.group m xs s i k
zone_stem (Some z) m xs s i k = record { axis = fix_by_link m.rule xs s.axis i k; count = s.count; anchor = s.anchor; trail = s.trail }

-- edge i by its link: with none it is passed over, and so it is where the stem is too close to the last one
unfoldable pub visit_link : Mode → List ℤ → State → ℕ → Link → State
visit_link m xs s i None = counted s
visit_link m xs s i (Some k) =
    cond (too_close m.group s.trail.last (edge_at s.axis i) (edge_at s.axis k)) (counted s) (zone_stem (edge_at s.axis k).blue m xs s i k)

-- an edge that is done is skipped, and not counted
unfoldable pub visit : Mode → List ℤ → State → ℕ → State
visit m xs s i = cond (edge_at s.axis i).flags.done s (visit_link m xs s i (edge_at s.axis i).link)

-- ---- the call
-- an answer, a count, an anchor and an axis
abbrev pub stems : ℕ → Link → Axis → ℕ → Stems
stems count anchor axis k = record { answer = k; count = count; anchor = anchor; axis = axis }

-- answer 0 and what the visits came to
abbrev pub outcome : State → Stems
outcome s = stems s.count s.anchor s.axis 0

-- at the start nothing is counted, there is no last stem, and the delta is 0
abbrev pub begun : Link → Axis → State
begun anchor axis = record { axis = axis; count = 0; anchor = anchor; trail = record { last = None; delta = pos 0 } }

-- every edge visited
unfoldable pub stems_of : Mode → List ℤ → Link → Axis → Stems
stems_of m xs anchor axis = outcome (visits (visit m xs) axis.len 0 (begun anchor axis))

-- what is the same for every visit
abbrev pub mode_of : Axis → Group → Bool → WidthRule → Mode
mode_of axis group adjust rule = record { dim = axis.dim; group = group; stem_adjust = adjust; rule = rule }

-- the tests of `align_stem_edges`, in their order
abbrev pub stems_tests : Axis → Bool → Link → WidthRule → List ℤ → List Test
stems_tests axis ttb anchor rule xs =
    edges_short axis
    ∷ bottom_to_top ttb
    ∷ bad_parameter unless rule_holds rule xs
    ∷ edges_indexed axis
    ∷ bad_index unless link_holds axis.len anchor
    ∷ edges_in_range axis
    ∷ []

-- `align_stem_edges`: the refusal, count 0, no anchor and the axis as it came, or 0, the count, the anchor or its absence, and the axis
unfoldable pub align_stem_edges : Axis → Group → Bool → Bool → Link → WidthRule → List ℤ → Stems
align_stem_edges axis group adjust ttb anchor rule xs =
    answered (refusal (stems_tests axis ttb anchor rule xs)) (stems 0 None axis)
    (stems_of (mode_of axis group adjust rule) xs anchor axis)

-- what the call owes its caller: the answer, the count, the anchor and the axis
abbrev pub AlignsStemEdges : Axis → Group → Bool → Bool → Link → WidthRule → List ℤ → Stems → Type 0
AlignsStemEdges axis group adjust ttb anchor rule xs r = r ≡ align_stem_edges axis group adjust ttb anchor rule xs

-- ---- marks
-- those that the call gives
abbrev pub stems_marks : List Mark
stems_marks = Marks.Linked ∷ Marks.Anchor ∷ Marks.Stem ∷ Marks.Adjusted ∷ Marks.Bound ∷ []

-- an outcome without the marks of its edges
abbrev pub without_marks : Stems → Stems
without_marks r = stems r.count r.anchor (unmarked_axis r.axis) r.answer
