-- The calls that place one edge (document 01, module 5): by its link, by its serif, by its neighbours. Each is its refusal, then one step of `place`.
use Rattle.std.specs.Prelude.{None}
use Rattle.std.specs.Prelude.{◌≡◌, Bool, List, [], ◌∷◌, ℕ, ltb, ℤ}
use Rattle.refusals.specs.Refusal.{Test, ◌unless◌, bad_parameter, bad_index, refusal, answered}
use Rattle.fixed.specs.declared.width.WidthRule.{WidthRule}
use Rattle.fixed.specs.Width.{rule_holds}
use Rattle.axis.specs.Link.{Link}
use Rattle.axis.specs.declared.edge.Axis.{Axis}
use Rattle.axis.specs.Edge.{edge_at, put_edge}
use Rattle.axis.specs.Mark.{unmarked_axis}
use Rattle.axis.specs.Refusals.{edges_short, bottom_to_top, edges_indexed, edges_in_range}
use Rattle.place.specs.declared.adjust.LinkDir.{LinkDir}
use Rattle.place.specs.Placing.{both_below, linked_edge, serif_edge, lower_bound, upper_bound, adjusted}
use Rattle.place.specs.Answer.{Fitted}
use Rattle.place.specs.Answer.{Bounds}

-- ---- the tests of the calls, in document 01's order
-- of `align_linked_edge`
abbrev pub linked_tests : Axis → WidthRule → List ℤ → ℕ → ℕ → List Test
linked_tests axis rule xs base stem =
    edges_short axis ∷ bad_parameter unless rule_holds rule xs ∷ edges_indexed axis ∷ bad_index unless both_below axis.len base stem ∷ edges_in_range axis ∷ []

-- of `align_serif_edge`
abbrev pub serif_tests : Axis → ℕ → ℕ → List Test
serif_tests axis base serif = edges_short axis ∷ edges_indexed axis ∷ bad_index unless both_below axis.len base serif ∷ edges_in_range axis ∷ []

-- of `latin_remaining_bounds`
abbrev pub edge_tests : Axis → ℕ → List Test
edge_tests axis i = edges_short axis ∷ edges_indexed axis ∷ bad_index unless ltb i axis.len ∷ edges_in_range axis ∷ []

-- of `adjust_link`
abbrev pub adjust_tests : Axis → ℕ → Bool → List Test
adjust_tests axis i ttb = edges_short axis ∷ bottom_to_top ttb ∷ edges_indexed axis ∷ bad_index unless ltb i axis.len ∷ edges_in_range axis ∷ []

-- ---- the calls, and what each owes its caller
-- an answer and an axis
abbrev pub fitted : Axis → ℕ → Fitted
fitted axis k = record { answer = k; axis = axis }

-- an outcome without the marks of its edges
abbrev pub unmarked_fitted : Fitted → Fitted
unmarked_fitted r = fitted (unmarked_axis r.axis) r.answer

-- `align_linked_edge`: the refusal and the axis as it came, or 0 and the axis with the stem edge placed by the base edge
unfoldable pub align_linked_edge : Axis → WidthRule → List ℤ → ℕ → ℕ → Fitted
align_linked_edge axis rule xs base stem =
    answered (refusal (linked_tests axis rule xs base stem)) (fitted axis)
    (fitted (put_edge axis stem (linked_edge rule xs (edge_at axis base) (edge_at axis stem))) 0)

abbrev pub AlignsLinkedEdge : Axis → WidthRule → List ℤ → ℕ → ℕ → Fitted → Type 0
AlignsLinkedEdge axis rule xs base stem r = r ≡ align_linked_edge axis rule xs base stem

-- `align_serif_edge`: the refusal and the axis as it came, or 0 and the axis with the serif edge placed by the base edge
unfoldable pub align_serif_edge : Axis → ℕ → ℕ → Fitted
align_serif_edge axis base serif =
    answered (refusal (serif_tests axis base serif)) (fitted axis)
    (fitted (put_edge axis serif (serif_edge (edge_at axis base) (edge_at axis serif))) 0)

abbrev pub AlignsSerifEdge : Axis → ℕ → ℕ → Fitted → Type 0
AlignsSerifEdge axis base serif r = r ≡ align_serif_edge axis base serif

-- an answer and two bounds
abbrev pub bounds : Link → Link → ℕ → Bounds
bounds lower upper k = record { answer = k; lower = lower; upper = upper }

-- `latin_remaining_bounds`: the refusal and no bounds, or 0 and the two bounds
unfoldable pub latin_remaining_bounds : Axis → ℕ → Bounds
latin_remaining_bounds axis i =
    answered (refusal (edge_tests axis i)) (bounds None None) (bounds (lower_bound i) (upper_bound axis i) 0)

abbrev pub FindsLatinRemainingBounds : Axis → ℕ → Bounds → Type 0
FindsLatinRemainingBounds axis i r = r ≡ latin_remaining_bounds axis i

-- `adjust_link`: the refusal and the axis as it came, or 0 and the axis with the edge adjusted, moved or not
unfoldable pub adjust_link : Axis → ℕ → LinkDir → Bool → Fitted
adjust_link axis i dir ttb = answered (refusal (adjust_tests axis i ttb)) (fitted axis) (fitted (adjusted axis i dir) 0)

abbrev pub AdjustsLink : Axis → ℕ → LinkDir → Bool → Fitted → Type 0
AdjustsLink axis i dir ttb r = r ≡ adjust_link axis i dir ttb
