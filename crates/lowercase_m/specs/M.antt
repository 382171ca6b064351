-- The lowercase m rule (document 01, module 6): which edges it is given to, and which of them it moves.
use Rattle.std.specs.Prelude.{None, Some}
use Rattle.std.specs.Prelude.{◌≡◌, Bool, true, cond, ◌&&◌, ◌||◌, List, [], ◌∷◌, ℕ, ◌+◌, ltb, eqb, get_or, ℤ, pos, nat_abs, ◌-ℤ◌, ◌*ℤ◌}
use Rattle.refusals.specs.Refusal.{Test, ◌unless◌, refusal, answered, bad_parameter}
use Rattle.axis.specs.Link.{Link}
use Rattle.axis.specs.declared.kinds.Group.{Group}
use Rattle.axis.specs.declared.kinds.Group.TheVariants.{Default, Cjk}
use Rattle.axis.specs.declared.kinds.Mark.TheVariants.{LowercaseM}
use Rattle.axis.specs.declared.edge.Edge.{Edge}
use Rattle.axis.specs.declared.edge.Axis.{Axis}
use Rattle.axis.specs.Edge.{empty_edge, edge_at, put_edge, placed, finished}
use Rattle.axis.specs.Link.{links_to}
use Rattle.axis.specs.Mark.{unmarked_axis}
use Rattle.axis.specs.Refusals.{edges_short, edges_indexed, edges_in_range}
use Rattle.axis.specs.Changes.{Extent, nothing, position, place}
use Rattle.lowercase_m.specs.declared.stems.Stems.{Stems}
use Rattle.lowercase_m.specs.Answer.{Hinted}

-- ---- the stems
-- the first edges of the three stems: 0, 2, 4 of six edges, 1, 5, 9 of twelve
abbrev pub stems_of : ℕ → Stems
stems_of n = cond (eqb n 6) (record { first = 0; second = 2; third = 4 }) (record { first = 1; second = 5; third = 9 })

-- the span, by which the original distances between the stems differ, is below 8
abbrev pub even : ℤ → ℤ → ℤ → Bool
even o1 o2 o3 = ltb (nat_abs ((o2 -ℤ o1) -ℤ (o3 -ℤ o2))) 8

-- how far the third stem is from its place at the same distance as the second
abbrev pub delta : ℤ → ℤ → ℤ → ℤ
delta p1 p2 p3 = p3 -ℤ ((p2 *ℤ pos 2) -ℤ p1)

-- what delta can be: four times an edge's position
abbrev pub most_delta : ℕ
most_delta = 67108864

-- each of the stems, whose first edges are these, is linked to the edge behind it
unfoldable pub linked_on : Stems → Edge → Edge → Edge → Bool
linked_on s e1 e2 e3 = links_to e1.link (s.first + 1) && (links_to e2.link (s.second + 1) && links_to e3.link (s.third + 1))

-- the group's own condition: CJK wants linked stems, the default group nothing
unfoldable pub group_holds : Group → Stems → Edge → Edge → Edge → Bool
group_holds Default s e1 e2 e3 = true
group_holds Cjk s e1 e2 e3 = linked_on s e1 e2 e3

-- the rule applies
unfoldable pub applies : Group → Stems → Edge → Edge → Edge → Bool
applies group s e1 e2 e3 = group_holds group s e1 e2 e3 && even e1.opos e2.opos e3.opos

-- to the stems of an axis
abbrev pub applies_to : Group → Axis → Stems → Bool
applies_to group axis s = applies group s (edge_at axis s.first) (edge_at axis s.second) (edge_at axis s.third)

-- ---- the moves
-- the edge, moved back by d, which marks it
abbrev pub moved_back : Edge → ℤ → Edge
moved_back e d = placed e (e.pos -ℤ d) LowercaseM

-- edge i is moved, and is done
unfoldable pub move_done : Axis → ℕ → ℤ → Axis
move_done axis i d = put_edge axis i (finished (moved_back (edge_at axis i) d))

-- edge i is moved
unfoldable pub move_only : Axis → ℕ → ℤ → Axis
move_only axis i d = put_edge axis i (moved_back (edge_at axis i) d)

-- the linked edge, where there is one, is moved and is done: a second time, where it is the stem itself
unfoldable pub move_link : Axis → Link → ℤ → Axis
move_link axis None d = axis
move_link axis (Some k) d = move_done axis k d

-- of twelve edges 8 and 11, the serifs, are moved: a second time, where one of them is the linked edge
unfoldable pub move_serifs : Axis → ℤ → Axis
move_serifs axis d = cond (eqb axis.len 12) (move_only (move_only axis 8 d) 11 d) axis

-- the third stem, then its link as it was before anything moved, then the serifs
unfoldable pub move_stem : Axis → ℕ → ℤ → Axis
move_stem axis i d = move_serifs (move_link (move_done axis i d) (edge_at axis i).link d) d

-- the third stem is moved to the same distance as the second, where the rule applies
unfoldable pub aligned : Group → Axis → Stems → Axis
aligned group axis s =
    cond (applies_to group axis s)
    (move_stem axis s.third (delta (edge_at axis s.first).pos (edge_at axis s.second).pos (edge_at axis s.third).pos))
    axis

-- ---- the call
-- an m has 6 or 12 edges
abbrev pub count_holds : ℕ → Bool
count_holds n = eqb n 6 || eqb n 12

-- the tests of `hint_lowercase_m`, in document 01's order
abbrev pub mTests : Axis → List Test
mTests axis = edges_short axis ∷ bad_parameter unless count_holds axis.len ∷ edges_indexed axis ∷ edges_in_range axis ∷ []

-- an answer and an axis
abbrev pub hinted : Axis → ℕ → Hinted
hinted axis k = record { answer = k; axis = axis }

-- the same without marks
abbrev pub without_marks : Hinted → Hinted
without_marks r = hinted (unmarked_axis r.axis) r.answer

-- the refusal and the axis as it came, or 0 and the axis after the rule
unfoldable pub hint_lowercase_m : Axis → Group → Hinted
hint_lowercase_m axis group = answered (refusal (mTests axis)) (hinted axis) (hinted (aligned group axis (stems_of axis.len)) 0)

-- what the call owes its caller: the answer and the axis
abbrev pub HintsLowercaseM : Axis → Group → Hinted → Type 0
HintsLowercaseM axis group r = r ≡ hint_lowercase_m axis group

-- ---- what the rule may change, of n edges
-- the third stem, and the edge that it is linked to
abbrev pub is_stem : List Edge → ℕ → ℕ → Bool
is_stem edges n i = eqb i (stems_of n).third || links_to (get_or edges (stems_of n).third empty_edge).link i

-- a serif of twelve edges
abbrev pub is_serif : ℕ → ℕ → Bool
is_serif n i = eqb n 12 && (eqb i 8 || eqb i 11)

-- the place of the former, the position of the latter, both marked, and nothing of the other edges
abbrev pub mExtent : List Edge → ℕ → ℕ → Extent
mExtent edges n i = cond (is_stem edges n i) (place (LowercaseM ∷ [])) (cond (is_serif n i) (position (LowercaseM ∷ [])) nothing)
