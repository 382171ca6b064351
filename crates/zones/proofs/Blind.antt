-- Request #105: positions are as without marks.
use Rattle.std.specs.Prelude.{None}
use mathlib.Core.Path.{◌≡◌, ◌∙◌}
use mathlib.Core.Bool.{Bool, true, false, cond}
use mathlib.Core.List.{List, [], ◌∷◌}
use Prim.Native.Nat.{ℕ}
use lib.Dec.{leb}
use lib.IntN.{ℤ}
use Rattle.refusals.specs.Refusal.{◌unless◌, too_long, bad_parameter, bad_index, out_of_range, refusal}
use Rattle.fixed.specs.declared.width.WidthRule.{WidthRule}
use Rattle.fixed.specs.Width.{rule_holds}
use Rattle.axis.specs.declared.kinds.Group.{Group}
use Rattle.axis.specs.declared.edge.Axis.{Axis}
use Rattle.axis.specs.Limits.{most_edges}
use Rattle.axis.specs.Mark.{Blind}
use Rattle.axis.proofs.Alike.{AlikeAxis, alike_len, indices-alike, numbers-alike, answered-alike, blind}
use Rattle.zones.specs.Pass.{anchored, blues_of, unmarked_anchored}
use Rattle.zones.proofs.AlikePass.{blues-alike}
use Rattle.zones.specs.Call.{has_blues, blues_tests, align_edges_to_blues}

module _ (rule : WidthRule) (xs : List ℤ) (a b : Axis) (alike : AlikeAxis a b) where
  same-refusal : refusal (blues_tests a rule xs) ≡ refusal (blues_tests b rule xs)
  same-refusal = λ i.
      refusal
      (too_long unless leb (alike_len a b alike i) most_edges
      ∷ bad_parameter unless rule_holds rule xs
      ∷ bad_index unless indices-alike a b alike i
      ∷ out_of_range unless numbers-alike a b alike i
      ∷ [])

  -- the work, with blues or without
  work : (t : Bool) → unmarked_anchored (cond t (blues_of rule xs a) (anchored a None 0))
      ≡ unmarked_anchored (cond t (blues_of rule xs b) (anchored b None 0))
  work true = blues-alike rule xs a b alike
  work false = λ i. anchored (alike.same i) None 0

  same_outcome : (group : Group) → unmarked_anchored (align_edges_to_blues a group rule xs) ≡ unmarked_anchored (align_edges_to_blues b group rule xs)
  unfolding align_edges_to_blues
  same_outcome group =
      let t = has_blues group a.dim in
      answered-alike unmarked_anchored (refusal (blues_tests a rule xs)) (refusal (blues_tests b rule xs)) (anchored a None) (anchored b None) _ _
      same-refusal
      (λ (n : ℕ). λ i. anchored (alike.same i) None n)
      (work t ∙ (λ i. unmarked_anchored (cond (has_blues group (alike.same i).dim) (blues_of rule xs b) (anchored b None 0))))

pub align-edges-to-blues : (group : Group) (rule : WidthRule) (xs : List ℤ) → Blind (λ (axis : Axis). align_edges_to_blues axis group rule xs) unmarked_anchored
align-edges-to-blues group rule xs = blind _ unmarked_anchored (λ (a b : Axis) (h : AlikeAxis a b). same_outcome rule xs a b h group)
