-- The call that puts edges on their blue zones (document 01, module 5): its refusal, then the visits of `zones_table` where the group has blue zones.
use Rattle.std.specs.Prelude.{None}
use Rattle.std.specs.Prelude.{◌≡◌, Bool, true, false, cond, List, [], ◌∷◌, ℤ}
use Rattle.refusals.specs.Refusal.{Test, ◌unless◌, bad_parameter, refusal, answered}
use Rattle.fixed.specs.declared.width.WidthRule.{WidthRule}
use Rattle.fixed.specs.Width.{rule_holds}
use Rattle.axis.specs.declared.kinds.Group.{Group}
use Rattle.axis.specs.declared.kinds.Group.TheVariants.{Default, Cjk}
use Rattle.axis.specs.declared.kinds.Dimension.{Dimension}
use Rattle.axis.specs.declared.kinds.Dimension.TheVariants.{Horizontal, Vertical}
use Rattle.axis.specs.declared.edge.Axis.{Axis}
use Rattle.axis.specs.Refusals.{edges_short, edges_indexed, edges_in_range}
use Rattle.zones.specs.Answer.{Anchored}
use Rattle.zones.specs.Pass.{anchored, blues_of}

-- an axis is vertical
unfoldable pub is_vertical : Dimension → Bool
is_vertical Horizontal = false
is_vertical Vertical = true

-- the default group has blues on vertical axes only, CJK on both
unfoldable pub has_blues : Group → Dimension → Bool
has_blues Default dim = is_vertical dim
has_blues Cjk dim = true

-- where it has blues, every edge visited, else the axis as it came, without an anchor
abbrev pub blues_where : Axis → Group → WidthRule → List ℤ → Anchored
blues_where axis group rule xs = cond (has_blues group axis.dim) (blues_of rule xs axis) (anchored axis None 0)

-- the tests of the call, in document 01's order
abbrev pub blues_tests : Axis → WidthRule → List ℤ → List Test
blues_tests axis rule xs = edges_short axis ∷ bad_parameter unless rule_holds rule xs ∷ edges_indexed axis ∷ edges_in_range axis ∷ []

-- `align_edges_to_blues`: the refusal, no anchor and the axis as it came, or 0, the anchor or its absence, and the axis
unfoldable pub align_edges_to_blues : Axis → Group → WidthRule → List ℤ → Anchored
align_edges_to_blues axis group rule xs =
    answered (refusal (blues_tests axis rule xs)) (anchored axis None) (blues_where axis group rule xs)

-- what the call owes its caller: the answer, the anchor and the axis
abbrev pub AlignsEdgesToBlues : Axis → Group → WidthRule → List ℤ → Anchored → Type 0
AlignsEdgesToBlues axis group rule xs r = r ≡ align_edges_to_blues axis group rule xs
