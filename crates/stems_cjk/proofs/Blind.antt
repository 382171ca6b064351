-- Request #105, the call on a CJK stem: its answer, its delta and its positions are as without marks.
use mathlib.Core.Path.{◌≡◌, ap, ◌∙◌}
use mathlib.Core.Bool.{Bool}
use mathlib.Core.List.{List, [], ◌∷◌}
use Prim.Native.Nat.{ℕ}
use lib.Dec.{leb}
use lib.IntN.{ℤ, pos}
use Rattle.refusals.specs.Refusal.{◌unless◌, too_long, bad_parameter, bad_index, out_of_range, refusal}
use Rattle.fixed.specs.declared.width.WidthRule.{WidthRule}
use Rattle.fixed.specs.Width.{rule_holds}
use Rattle.axis.specs.declared.kinds.Dimension.{Dimension}
use Rattle.axis.specs.declared.edge.Axis.{Axis}
use Rattle.axis.specs.Edge.{edge_at}
use Rattle.axis.specs.Limits.{most_edges, most_passed}
use Rattle.axis.specs.Mark.{Blind}
use Rattle.axis.specs.Refusals.{within}
use Rattle.axis.proofs.Alike.{AlikeAxis, at-alike, alike_len, indices-alike, numbers-alike, answered-alike, blind}
use Rattle.place.specs.Placing.{both_below}
use Rattle.stems_cjk.specs.declared.stem.Stem.{Stem}
use Rattle.stems_cjk.specs.Cjk.{stem_of, hinted_stem}
use Rattle.stems_cjk.proofs.Alike.{stem-same, hinted-alike}
use Rattle.stems_cjk.specs.Answer.{StemCjk}
use Rattle.stems_cjk.specs.Hint.{hinted, stem_tests, hint_normal_stem_cjk, without_marks}

module _ (adjust : Bool) (rule : WidthRule) (xs : List ℤ) (i j : ℕ) (d : ℤ) where
  -- the stem of the two edges
  abbrev stem : Axis → Stem
  stem axis = stem_of axis.dim adjust rule xs (edge_at axis i) (edge_at axis j) d

  -- what the call comes to where it is not refused
  abbrev work : Axis → Stem → StemCjk
  work axis s = hinted (hinted_stem axis i j s) s.delta 0

  module _ (a b : Axis) (h : AlikeAxis a b) where
    refused-same : refusal (stem_tests a rule xs i j d) ≡ refusal (stem_tests b rule xs i j d)
    refused-same =
        let len = alike_len a b h in
        λ k. refusal
        (too_long unless leb (len k) most_edges ∷ bad_parameter unless rule_holds rule xs
        ∷ bad_index unless indices-alike a b h k ∷ bad_index unless both_below (len k) i j
        ∷ out_of_range unless numbers-alike a b h k ∷ out_of_range unless within most_passed d ∷ [])

    stem-is : stem a ≡ stem b
    stem-is =
        stem-same a.dim adjust rule xs _ _ _ _ d (at-alike a b i h) (at-alike a b j h)
        ∙ ap (λ (dim : Dimension). stem_of dim adjust rule xs (edge_at b i) (edge_at b j) d) (ap (λ (x : Axis). x.dim) h.same)

    work-same : without_marks (work a (stem a)) ≡ without_marks (work b (stem b))
    work-same =
        (λ k. record { answer = 0; delta = (stem a).delta; axis = (hinted-alike a b h i j (stem a)).same k }) ∙ ap (λ (s : Stem). without_marks (work b s)) stem-is

    same : without_marks (hint_normal_stem_cjk a adjust rule xs i j d) ≡ without_marks (hint_normal_stem_cjk b adjust rule xs i j d)
    unfolding hint_normal_stem_cjk
    same =
        answered-alike without_marks _ _ (hinted a (pos 0)) (hinted b (pos 0)) (work a (stem a)) (work b (stem b)) refused-same
        (λ (n : ℕ). λ k. record { answer = n; delta = pos 0; axis = h.same k }) work-same

  pub marks-unread : Blind (λ (axis : Axis). hint_normal_stem_cjk axis adjust rule xs i j d) without_marks
  marks-unread = blind _ without_marks same
