-- Remaining edges (the Rust's `align_remaining_edges` and `find_bounding_completed_edges`): the edges that blue zones and stems have left where they were.
use Rattle.std.specs.Prelude.{None, Some}
use Rattle.std.specs.Prelude.{false, not, cond, ◌||◌, List, [], ◌∷◌, ℕ, zero, suc, ◌+◌, ◌-◌, eqb, ℤ}
use Rattle.refusals.specs.Refusal.{Test, ◌unless◌, refusal, answered, bad_index, steep}
use Rattle.axis.specs.declared.kinds.Group.{Group}
use Rattle.axis.specs.declared.kinds.Group.TheVariants.{Default, Cjk}
use Rattle.axis.specs.Link.{Link}
use Rattle.axis.specs.declared.kinds.Mark.{Mark}
use Rattle.axis.specs.declared.kinds.Mark.TheVariants as Marks
use Rattle.axis.specs.declared.edge.Axis.{Axis}
use Rattle.axis.specs.Edge.{edge_at, put_edge, placed, fixed_at}
use Rattle.axis.specs.Limits.{most_pos}
use Rattle.axis.specs.Mark.{unmarked_axis}
use Rattle.axis.specs.Refusals.{within, link_holds, edges_short, edges_indexed, edges_in_range}
use Rattle.axis.specs.Visits.{visits}
use Rattle.place.specs.declared.adjust.LinkDir.TheVariants.{Prev, Next}
use Rattle.place.specs.Placing.{adjusted}
use Rattle.remaining.specs.declared.kinds.Progress.{Progress}
use Rattle.remaining.specs.declared.kinds.Plan.{Plan}
use Rattle.remaining.specs.declared.kinds.Round.{Round}
use Rattle.remaining.specs.declared.kinds.Round.TheVariants as Rounds
use Rattle.remaining.specs.declared.kinds.Way.{Way}
use Rattle.remaining.specs.declared.kinds.Way.TheVariants as Ways
use Rattle.remaining.specs.Plan.{one_less, as_beyond, stays_plan, serif_plan, is_near, anchor_plan, spaced_plan, latin_between, cjk_between}

-- ---- the done edges around an edge
-- the nearest one before edge i
unfoldable pub done_before : Axis → ℕ → Link
done_before axis zero = None
done_before axis (suc k) = cond (edge_at axis k).flags.done (Some k) (done_before axis k)

-- the first of n edges from k on
unfoldable pub done_from : Axis → ℕ → ℕ → Link
done_from axis zero k = None
done_from axis (suc n) k = cond (edge_at axis k).flags.done (Some k) (done_from axis n (k + 1))

-- the nearest one behind edge i
abbrev pub done_behind : Axis → ℕ → Link
done_behind axis i = done_from axis (axis.len - (i + 1)) (i + 1)

-- ---- Latin's plan for edge i
-- its serif, where that is near
unfoldable pub near_of : Axis → ℕ → Link → Link
near_of axis i None = None
near_of axis i (Some k) = cond (is_near (edge_at axis i) (edge_at axis k)) (Some k) None

-- with an anchor a: between the nearest done edges, where both are there, else by the anchor
unfoldable pub by_bounds : Axis → Progress → ℕ → ℕ → Link → Link → Plan
by_bounds axis past i a (Some b) (Some f) = latin_between (edge_at axis b) (edge_at axis f) (edge_at axis i) past
by_bounds axis past i a (Some b) None = spaced_plan (edge_at axis a) (edge_at axis i) past
by_bounds axis past i a None f = spaced_plan (edge_at axis a) (edge_at axis i) past

-- where there is no anchor yet it becomes it, even between done edges
unfoldable pub by_anchor : Axis → Progress → ℕ → Link → Plan
by_anchor axis past i None = anchor_plan (edge_at axis i) i past
by_anchor axis past i (Some a) = by_bounds axis past i a (done_before axis i) (done_behind axis i)

-- by a near serif first
unfoldable pub by_serif : Axis → Progress → ℕ → Link → Plan
by_serif axis past i (Some k) = serif_plan (edge_at axis k) (edge_at axis i) Ways.Held past
by_serif axis past i None = by_anchor axis past i past.anchor

abbrev pub latin_plan : Axis → Progress → ℕ → Plan
latin_plan axis past i = by_serif axis past i (near_of axis i (edge_at axis i).serif)

-- ---- CJK's plans
-- first the edges with a serif, at any distance
unfoldable pub serifs_plan : Axis → Progress → ℕ → Link → Plan
serifs_plan axis past i None = stays_plan (edge_at axis i) past
serifs_plan axis past i (Some k) = serif_plan (edge_at axis k) (edge_at axis i) Ways.Fixed (one_less past)

-- then the others: between the nearest done edges, shifted with the only one there is, or left
unfoldable pub others_plan : Axis → Progress → ℕ → Link → Link → Plan
others_plan axis past i (Some b) (Some f) = cjk_between (edge_at axis b) (edge_at axis f) (edge_at axis i) past
others_plan axis past i (Some b) None = serif_plan (edge_at axis b) (edge_at axis i) Ways.Placed past
others_plan axis past i None (Some f) = serif_plan (edge_at axis f) (edge_at axis i) Ways.Placed past
others_plan axis past i None None = stays_plan (edge_at axis i) past

-- ---- one visit
unfoldable pub plan_of : Round → Axis → Progress → ℕ → Plan
plan_of Rounds.Latin axis past i = latin_plan axis past i
plan_of Rounds.Serifs axis past i = serifs_plan axis past i (edge_at axis i).serif
plan_of Rounds.Others axis past i = others_plan axis past i (done_before axis i) (done_behind axis i)

-- edge i at a position, and that for good
abbrev pub place_at : Axis → ℕ → ℤ → Mark → Axis
place_at axis i p m = put_edge axis i (placed (edge_at axis i) p m)

abbrev pub fix_at : Axis → ℕ → ℤ → Mark → Axis
fix_at axis i p m = put_edge axis i (fixed_at (edge_at axis i) p m)

-- for good, and then held to the previous and to the next edge, as `adjust_link` does
unfoldable pub stored : Way → Axis → ℕ → ℤ → Mark → Axis
stored Ways.Stays axis i p m = axis
stored Ways.Placed axis i p m = place_at axis i p m
stored Ways.Fixed axis i p m = fix_at axis i p m
stored Ways.Held axis i p m = adjusted (adjusted (fix_at axis i p m) i Prev) i Next

-- the edges, and what the visits have come to beside them
pub record State : Type 0 where
  pub axis : Axis
  pub past : Progress

abbrev pub state : Axis → Progress → State
state axis past = record { axis = axis; past = past }

-- a plan is carried out, or its position is one that no edge may have
unfoldable pub carried_out : Axis → Progress → ℕ → Plan → State
carried_out axis past i plan =
    cond (within most_pos plan.pos) (state (stored plan.way axis i plan.pos plan.mark) plan.next) (state axis (as_beyond past))

-- an edge that is done is passed over; and so is every edge behind a position that no edge may have
unfoldable pub visit : Round → State → ℕ → State
visit round s i = cond (s.past.beyond || (edge_at s.axis i).flags.done) s (carried_out s.axis s.past i (plan_of round s.axis s.past i))

-- ---- the loops
-- all edges visited
abbrev pub visited : Round → State → State
visited round s = visits (visit round) s.axis.len 0 s

-- CJK's second loop, where edges are left to place
abbrev pub others_visited : State → State
others_visited s = cond (eqb s.past.count 0) s (visited Rounds.Others s)

-- Latin's one loop, or CJK's two
unfoldable pub pass_of : Group → State → State
pass_of Default s = visited Rounds.Latin s
pass_of Cjk s = others_visited (visited Rounds.Serifs s)

-- at the start no position was given
abbrev pub begun : ℕ → Link → Progress
begun count anchor = record { anchor = anchor; count = count; beyond = false }

abbrev pub remaining_of : Axis → Group → ℕ → Link → State
remaining_of axis group count anchor = pass_of group (state axis (begun count anchor))

-- ---- the call
-- an answer, an anchor or its absence, and the axis
pub record Remaining : Type 0 where
  pub answer : ℕ
  pub anchor : Link
  pub axis : Axis

abbrev pub remaining : Link → Axis → ℕ → Remaining
remaining anchor axis k = record { answer = k; anchor = anchor; axis = axis }

-- answer 0 and what the loops came to
abbrev pub outcome : State → Remaining
outcome s = remaining s.past.anchor s.axis 0

-- the tests of `align_remaining_edges` in front of its loops, and all of them: 8 where a position is given on the way that no edge may have
abbrev pub table_tests : Axis → Link → List Test
table_tests axis anchor = edges_short axis ∷ edges_indexed axis ∷ bad_index unless link_holds axis.len anchor ∷ edges_in_range axis ∷ []

abbrev pub remaining_tests : Axis → Group → ℕ → Link → List Test
remaining_tests axis group count anchor =
    edges_short axis
    ∷ edges_indexed axis
    ∷ bad_index unless link_holds axis.len anchor
    ∷ edges_in_range axis
    ∷ steep unless not (remaining_of axis group count anchor).past.beyond
    ∷ []

-- `align_remaining_edges`: the refusal, no anchor and the axis as it came, or 0, the anchor or its absence, and the axis
unfoldable pub align_remaining_edges : Axis → Group → ℕ → Link → Remaining
align_remaining_edges axis group count anchor =
    answered (refusal (remaining_tests axis group count anchor)) (remaining None axis) (outcome (remaining_of axis group count anchor))

-- ---- marks
-- those that the call gives
abbrev pub remaining_marks : List Mark
remaining_marks = Marks.Bound ∷ Marks.Serif ∷ Marks.Between ∷ Marks.Spaced ∷ Marks.RemainingAnchor ∷ []

-- an outcome without the marks of its edges
abbrev pub without_marks : Remaining → Remaining
without_marks r = remaining r.anchor (unmarked_axis r.axis) r.answer
