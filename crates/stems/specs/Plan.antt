-- The plan of a visit: what it does, by what it finds, which are the visited edge e, the edge e2 that it is linked to, the anchor, and what earlier stems left.
-- `crates/stems/specs/Stems.antt` defines the visit itself, and `steps-are` there shows that a plan carried out is one.
use Rattle.std.specs.Prelude.{None, Some}
use Rattle.std.specs.Prelude.{Bool, true, false, cond, ◌&&◌, List, ℕ, ltb, ℤ, pos, ◌+ℤ◌, ◌-ℤ◌}
use Rattle.std.specs.Int.Signed.{lt_z}
use Rattle.fixed.specs.declared.width.WidthRule.{WidthRule}
use Rattle.axis.specs.Link.{Link}
use Rattle.axis.specs.Link.{Blue}
use Rattle.axis.specs.declared.kinds.Group.{Group}
use Rattle.axis.specs.declared.kinds.Group.TheVariants.{Default, Cjk}
use Rattle.axis.specs.declared.kinds.Mark.TheVariants as Marks
use Rattle.axis.specs.declared.edge.Edge.{Edge}
use Rattle.axis.specs.Edge.{placed, fixed_at}
use Rattle.place.specs.declared.adjust.LinkDir.TheVariants.{Prev}
use Rattle.place.specs.Placing.{linked_pos, linked_edge, has_passed, is_far}
use Rattle.stems_latin.specs.Latin.{anchored_first, anchored_second, free_first}
use Rattle.stems_cjk.specs.declared.stem.Stem.{Stem}
use Rattle.stems_cjk.specs.Cjk.{stem_of}
use Rattle.stems.specs.Visit.{original_len, width_of, start_beside, delta_after}
use Rattle.stems.specs.declared.kinds.Mode.{Mode}
use Rattle.stems.specs.declared.kinds.Trail.{Trail}
use Rattle.stems.specs.declared.kinds.Second.{Second}
use Rattle.stems.specs.declared.kinds.Second.TheVariants.{Stays, Placed, Fixed}
use Rattle.stems.specs.declared.kinds.Plan.{Plan}

-- ---- a stem placed by its link
-- the edge goes to its fitted width from its link, as `align_linked_edge` puts it
abbrev pub linked_plan : WidthRule → List ℤ → Edge → Edge → Trail → Plan
linked_plan rule xs e e2 trail = record { first = (linked_edge rule xs e2 e).pos; mark = (linked_edge rule xs e2 e).mark; second = Stays; bounded = false; anchors = false; trail = trail }

-- ---- Latin stems
-- the second edge is done: the first goes to the width w before it
abbrev pub behind_plan : Edge → ℤ → Trail → Plan
behind_plan e2 w trail = record { first = e2.pos -ℤ w; mark = Marks.Adjusted; second = Stays; bounded = true; anchors = false; trail = trail }

-- it is not: both edges are placed by the stem's start p, length n and width w
abbrev pub centred_plan : ℤ → ℤ → ℤ → Trail → Plan
centred_plan p n w trail = record { first = anchored_first p n w; mark = Marks.Stem; second = Fixed (anchored_second p n w); bounded = true; anchors = false; trail = trail }

-- a stem beside the anchor a
unfoldable pub anchored_plan : WidthRule → List ℤ → Edge → Edge → Edge → Trail → Plan
anchored_plan rule xs e e2 a trail =
    cond e2.flags.done
    (behind_plan e2 (width_of rule xs e e2) trail)
    (centred_plan (start_beside a e) (original_len e e2) (width_of rule xs e e2) trail)

-- the first stem, where there is no anchor: its second edge goes to the fitted width from the first, as `align_linked_edge` puts it, and is not done
unfoldable pub free_plan : WidthRule → List ℤ → Edge → Edge → Trail → Plan
free_plan rule xs e e2 trail = record {
  first = free_first e.opos (original_len e e2) (width_of rule xs e e2);
  mark = Marks.Anchor;
  second = Placed (linked_pos rule xs (free_first e.opos (original_len e e2) (width_of rule xs e e2)) e.opos e2.opos);
  bounded = false;
  anchors = true;
  trail = trail;
}

-- a Latin stem, by the anchor, whose edge is a
unfoldable pub latin_plan : WidthRule → List ℤ → Edge → Edge → Edge → Link → Trail → Plan
latin_plan rule xs e e2 a None trail = free_plan rule xs e e2 trail
latin_plan rule xs e e2 a (Some k) trail = anchored_plan rule xs e e2 a trail

-- ---- CJK stems
-- both edges are placed for good, the first is the anchor, and the second is where the last stem is
abbrev pub fixed_plan : ℤ → ℤ → ℤ → Plan
fixed_plan p q d = record { first = p; mark = Marks.Stem; second = Fixed q; bounded = false; anchors = true; trail = record { last = Some q; delta = d } }

-- the edge of the smaller original position is the stem's lower one
unfoldable pub stem_plan : Edge → Edge → Stem → ℤ → Plan
stem_plan e e2 s d = cond (lt_z e.opos e2.opos) (fixed_plan s.pos (s.pos +ℤ s.width) d) (fixed_plan (s.pos +ℤ s.width) s.pos d)

-- a normal stem, as `hint_normal_stem_cjk` places it
abbrev pub normal_plan : Mode → List ℤ → Edge → Edge → Link → Trail → Plan
normal_plan m xs e e2 anchor trail =
    stem_plan e e2 (stem_of m.dim m.stem_adjust m.rule xs e e2 trail.delta)
    (delta_after m.dim anchor trail.delta (stem_of m.dim m.stem_adjust m.rule xs e e2 trail.delta).delta)

-- an edge whose link is before it is placed by that one, and is where the last stem is, by its position before
unfoldable pub cjk_plan : Mode → List ℤ → Edge → Edge → Link → Bool → Trail → Plan
cjk_plan m xs e e2 anchor before trail =
    cond before
    (linked_plan m.rule xs e e2 (record { last = Some e.pos; delta = trail.delta }))
    (normal_plan m xs e e2 anchor trail)

-- ---- the plan
-- by the group
unfoldable pub group_plan : Group → Mode → List ℤ → Edge → Edge → Edge → Link → Bool → Trail → Plan
group_plan Default m xs e e2 a anchor before trail = latin_plan m.rule xs e e2 a anchor trail
group_plan Cjk m xs e e2 a anchor before trail = cjk_plan m xs e e2 anchor before trail

-- by the link's zone: where it has one, the edge is placed by the link, whatever the group
unfoldable pub zone_plan : Blue → Mode → List ℤ → Edge → Edge → Edge → Link → Bool → Trail → Plan
zone_plan None m xs e e2 a anchor before trail = group_plan m.group m xs e e2 a anchor before trail
zone_plan (Some z) m xs e e2 a anchor before trail = linked_plan m.rule xs e e2 trail

-- what the visit of e does
abbrev pub plan_of : Mode → List ℤ → Edge → Edge → Edge → Link → Bool → Trail → Plan
plan_of m xs e e2 a anchor before trail = zone_plan e2.blue m xs e e2 a anchor before trail

-- ---- what a plan puts into the table
-- the second edge
unfoldable pub second_edge : Edge → Second → Edge
second_edge e Stays = e
second_edge e (Placed p) = placed e p Marks.Linked
second_edge e (Fixed p) = fixed_at e p Marks.Stem

-- the neighbour bound, as `adjust_link` has it: the edge has passed the previous one, and its link is far from that
abbrev pub is_over : Edge → Edge → Edge → Bool
is_over e prev link = has_passed Prev e.pos prev.pos && is_far link.pos prev.pos

-- edge i is held to it where the plan says so, and there is a previous edge
abbrev pub is_bounded : Plan → ℕ → Bool
is_bounded plan i = plan.bounded && ltb 0 i

-- edge i then takes the previous edge's position, and is bound
unfoldable pub held_edge : Plan → ℕ → Edge → Edge → Edge → Edge
held_edge plan i e prev link = cond (is_bounded plan i && is_over e prev link) (placed e prev.pos Marks.Bound) e

-- edge i becomes the anchor where the plan says so
unfoldable pub anchor_after : Plan → Link → ℕ → Link
anchor_after plan anchor i = cond plan.anchors (Some i) anchor
