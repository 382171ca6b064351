-- Request #105, the stem pass: its answer, its count, its anchor and its positions are as without marks.
use Rattle.std.specs.Prelude.{None}
use mathlib.Core.Path.{◌≡◌, refl, ap, ◌∙◌}
use mathlib.Core.Bool.{Bool, not}
use mathlib.Core.List.{List, [], ◌∷◌}
use Prim.Native.Nat.{ℕ}
use lib.Dec.{leb}
use lib.IntN.{ℤ}
use Rattle.refusals.specs.Refusal.{◌unless◌, too_long, bad_parameter, bad_index, out_of_range, retired, refusal}
use Rattle.fixed.specs.declared.width.WidthRule.{WidthRule}
use Rattle.fixed.specs.Width.{rule_holds}
use Rattle.axis.specs.Link.{Link}
use Rattle.axis.specs.declared.kinds.Group.{Group}
use Rattle.axis.specs.declared.edge.Axis.{Axis}
use Rattle.axis.specs.Limits.{most_edges}
use Rattle.axis.specs.Mark.{Blind}
use Rattle.axis.specs.Refusals.{link_holds}
use Rattle.axis.specs.Visits.{visits}
use Rattle.axis.proofs.Alike.{AlikeAxis, alike_len, visits-alike, indices-alike, numbers-alike, answered-alike, blind}
use Rattle.stems.specs.declared.kinds.Mode.{Mode}
use Rattle.stems.specs.Stems.{State, visit, begun, outcome, stems, stems_of, mode_of, stems_tests, align_stem_edges, without_marks}
use Rattle.stems.proofs.AlikePass.{AlikeState, visit-alike}

-- ---- the pass
outcome-same : (s t : State) → AlikeState s t → without_marks (outcome s) ≡ without_marks (outcome t)
outcome-same s t h = λ k. stems (h.count k) (h.anchor k) (h.axis.same k) 0

pass_same : (m : Mode) (xs : List ℤ) (anchor : Link) (a b : Axis) → AlikeAxis a b → without_marks (stems_of m xs anchor a) ≡ without_marks (stems_of m xs anchor b)
unfolding stems_of
pass_same m xs anchor a b h =
    let start : AlikeState (begun anchor a) (begun anchor b) = record { axis = h; count = refl; anchor = refl; trail = refl } in
    let all = visits-alike AlikeState (visit m xs) (λ (s t : State) (i : ℕ) (r : AlikeState s t). visit-alike m xs s t r i) a.len 0 (begun anchor a)
    (begun anchor b) start in
    outcome-same _ _ all ∙ ap (λ (n : ℕ). without_marks (outcome (visits (visit m xs) n 0 (begun anchor b)))) (alike_len a b h)

-- ---- the call
module _ (group : Group) (adjust ttb : Bool) (anchor : Link) (rule : WidthRule) (xs : List ℤ) where
  module _ (a b : Axis) (h : AlikeAxis a b) where
    refused-same : refusal (stems_tests a ttb anchor rule xs) ≡ refusal (stems_tests b ttb anchor rule xs)
    refused-same =
        let len = alike_len a b h in
        λ k. refusal
        (too_long unless leb (len k) most_edges
        ∷ retired unless not ttb
        ∷ bad_parameter unless rule_holds rule xs
        ∷ bad_index unless indices-alike a b h k
        ∷ bad_index unless link_holds (len k) anchor
        ∷ out_of_range unless numbers-alike a b h k
        ∷ [])

    -- the mode is the same
    mode-is : mode_of a group adjust rule ≡ mode_of b group adjust rule
    mode-is = λ k. record { dim = (h.same k).dim; group = group; stem_adjust = adjust; rule = rule }

    same : without_marks (align_stem_edges a group adjust ttb anchor rule xs) ≡ without_marks (align_stem_edges b group adjust ttb anchor rule xs)
    unfolding align_stem_edges
    same =
        answered-alike without_marks _ _ (stems 0 None a) (stems 0 None b) _ _ refused-same
        (λ (n : ℕ). λ k. stems 0 None (h.same k) n)
        (pass_same (mode_of a group adjust rule) xs anchor a b h ∙ ap (λ (m : Mode). without_marks (stems_of m xs anchor b)) mode-is)

  pub marks-unread : Blind (λ (axis : Axis). align_stem_edges axis group adjust ttb anchor rule xs) without_marks
  marks-unread = blind _ without_marks same
