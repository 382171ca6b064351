-- Every edge visited, and the anchor that the visits found.
use Rattle.std.specs.Prelude.{None}
use Rattle.std.specs.Prelude.{List, [], ◌∷◌, ℕ, ℤ}
use Rattle.fixed.specs.declared.width.WidthRule.{WidthRule}
use Rattle.axis.specs.Link.{Link}
use Rattle.axis.specs.declared.kinds.Mark.{Mark}
use Rattle.axis.specs.declared.kinds.Mark.TheVariants as Marks
use Rattle.axis.specs.declared.edge.Axis.{Axis}
use Rattle.axis.specs.Mark.{unmarked_axis}
use Rattle.axis.specs.Visits.{visits}
use Rattle.zones.specs.Zones.{State, visit}
use Rattle.zones.specs.Answer.{Anchored}

-- an answer, an anchor and an axis
abbrev pub anchored : Axis → Link → ℕ → Anchored
anchored axis anchor k = record { answer = k; anchor = anchor; axis = axis }

-- answer 0 and what the visits came to
abbrev pub outcome : State → Anchored
outcome s = anchored s.axis s.anchor 0

-- an axis and an anchor
abbrev pub state_of : Axis → Link → State
state_of axis anchor = record { axis = axis; anchor = anchor }

-- every edge visited, with no anchor at the start
unfoldable pub blues_of : WidthRule → List ℤ → Axis → Anchored
blues_of rule xs axis = outcome (visits (visit rule xs) axis.len 0 (state_of axis None))

-- an outcome without the marks of its edges
abbrev pub unmarked_anchored : Anchored → Anchored
unmarked_anchored r = anchored (unmarked_axis r.axis) r.anchor r.answer

-- what the pass can mark an edge with
abbrev pub blues_marks : List Mark
blues_marks = Marks.BlueAnchor ∷ Marks.Blue ∷ Marks.Linked ∷ []
