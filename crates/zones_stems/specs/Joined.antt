-- Blue zones and then stems, on the same edges in one call (request #108).
use Rattle.std.specs.Prelude.{None}
use Rattle.std.specs.Prelude.{◌≡◌, Bool, ◌||◌, List, [], ◌∷◌, ◌++◌, ℤ}
use Rattle.refusals.specs.Refusal.{Test, ◌unless◌, refusal, answered, bad_parameter}
use Rattle.fixed.specs.declared.width.WidthRule.{WidthRule}
use Rattle.fixed.specs.Width.{rule_holds}
use Rattle.axis.specs.declared.kinds.Group.{Group}
use Rattle.axis.specs.declared.kinds.Mark.{Mark}
use Rattle.axis.specs.declared.edge.Axis.{Axis}
use Rattle.axis.specs.Refusals.{is_bare, every_edge, edges_short, bottom_to_top, edges_indexed, edges_in_range}
use Rattle.zones.specs.Answer.{Anchored}
use Rattle.zones.specs.Pass.{blues_marks}
use Rattle.zones.specs.Call.{has_blues, align_edges_to_blues}
use Rattle.stems.specs.Answer.{Stems}
use Rattle.stems.specs.Stems.{stems, align_stem_edges, stems_marks}

-- where the group has no blue zones on the axis, none of the edges has one
unfoldable pub zones_hold : Group → Axis → Bool
zones_hold group axis = has_blues group axis.dim || every_edge is_bare axis

-- the tests of the call, in their order
abbrev pub joined_tests : Axis → Group → Bool → WidthRule → List ℤ → List Test
joined_tests axis group ttb rule xs =
    edges_short axis
    ∷ bottom_to_top ttb
    ∷ bad_parameter unless rule_holds rule xs
    ∷ bad_parameter unless zones_hold group axis
    ∷ edges_indexed axis
    ∷ edges_in_range axis
    ∷ []

-- the stem call on what the blue call handed back
abbrev pub then_stems : Group → Bool → Bool → WidthRule → List ℤ → Anchored → Stems
then_stems group adjust ttb rule xs r = align_stem_edges r.axis group adjust ttb r.anchor rule xs

-- `align_blues_and_stems`: the refusal, count 0, no anchor and the axis as it came, or what the two calls in a row hand back
unfoldable pub align_blues_and_stems : Axis → Group → Bool → Bool → WidthRule → List ℤ → Stems
align_blues_and_stems axis group adjust ttb rule xs =
    answered (refusal (joined_tests axis group ttb rule xs)) (stems 0 None axis)
    (then_stems group adjust ttb rule xs (align_edges_to_blues axis group rule xs))

-- what the call owes its caller: the answer, the count, the anchor and the axis
abbrev pub AlignsBluesAndStems : Axis → Group → Bool → Bool → WidthRule → List ℤ → Stems → Type 0
AlignsBluesAndStems axis group adjust ttb rule xs r = r ≡ align_blues_and_stems axis group adjust ttb rule xs

-- ---- marks
-- those that the call gives: those of either pass
abbrev pub joined_marks : List Mark
joined_marks = blues_marks ++ stems_marks
