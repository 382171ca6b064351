-- The call that places a CJK stem (document 01, module 5): its refusal, then the stem of `stems_cjk`.
use Rattle.std.specs.Prelude.{◌≡◌, Bool, List, [], ◌∷◌, ℕ, ℤ, pos}
use Rattle.refusals.specs.Refusal.{Test, ◌unless◌, bad_parameter, bad_index, out_of_range, refusal, answered}
use Rattle.fixed.specs.declared.width.WidthRule.{WidthRule}
use Rattle.fixed.specs.Width.{rule_holds}
use Rattle.axis.specs.declared.kinds.Mark.{Mark}
use Rattle.axis.specs.declared.kinds.Mark.TheVariants.{Stem}
use Rattle.axis.specs.declared.edge.Axis.{Axis}
use Rattle.axis.specs.Limits.{most_passed}
use Rattle.axis.specs.Edge.{edge_at}
use Rattle.axis.specs.Mark.{unmarked_axis}
use Rattle.axis.specs.Refusals.{within, edges_short, edges_indexed, edges_in_range}
use Rattle.place.specs.Placing.{both_below}
use Rattle.stems_cjk.specs.Cjk.{stem_of, hinted_stem}
use Rattle.stems_cjk.specs.Answer.{StemCjk}

-- an answer, a delta and an axis
abbrev pub hinted : Axis → ℤ → ℕ → StemCjk
hinted axis d k = record { answer = k; delta = d; axis = axis }

-- the tests of the call, in document 01's order
abbrev pub stem_tests : Axis → WidthRule → List ℤ → ℕ → ℕ → ℤ → List Test
stem_tests axis rule xs i j d =
    edges_short axis ∷ bad_parameter unless rule_holds rule xs
    ∷ edges_indexed axis ∷ bad_index unless both_below axis.len i j
    ∷ edges_in_range axis ∷ out_of_range unless within most_passed d ∷ []

-- `hint_normal_stem_cjk`: the refusal, delta 0 and the axis as it came, or 0, the stem's own delta and the axis with its two edges placed
unfoldable pub hint_normal_stem_cjk : Axis → Bool → WidthRule → List ℤ → ℕ → ℕ → ℤ → StemCjk
hint_normal_stem_cjk axis adjust rule xs i j d =
    answered (refusal (stem_tests axis rule xs i j d)) (hinted axis (pos 0))
    (hinted (hinted_stem axis i j (stem_of axis.dim adjust rule xs (edge_at axis i) (edge_at axis j) d)) (stem_of axis.dim adjust rule xs (edge_at axis i) (edge_at axis j) d).delta 0)

-- what the call owes its caller: the answer, the delta and the axis
abbrev pub HintsNormalStemCjk : Axis → Bool → WidthRule → List ℤ → ℕ → ℕ → ℤ → StemCjk → Type 0
HintsNormalStemCjk axis adjust rule xs i j d r = r ≡ hint_normal_stem_cjk axis adjust rule xs i j d

-- ---- marks
-- those that the call gives
abbrev pub stem_marks : List Mark
stem_marks = Stem ∷ []

-- an outcome without the marks of its edges
abbrev pub without_marks : StemCjk → StemCjk
without_marks r = record { answer = r.answer; delta = r.delta; axis = unmarked_axis r.axis }
