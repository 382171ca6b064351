-- Edges that are accepted, with parameters that are right, are answered by 0.
use mathlib.Core.Path.{◌≡◌, refl, ap}
use mathlib.Core.Bool.{Bool, true}
use mathlib.Core.List.{List}
use Prim.Native.Nat.{ℕ}
use lib.IntN.{ℤ, pos}
use Rattle.refusals.proofs.Answers.{worked}
use Rattle.refusals.proofs.Tests.{no-refusal}
use Rattle.fixed.specs.declared.width.WidthRule.{WidthRule}
use Rattle.fixed.specs.Width.{rule_holds}
use Rattle.axis.specs.declared.edge.Axis.{Axis}
use Rattle.axis.specs.Handed.{EdgesAccepted}
use Rattle.axis.specs.Limits.{most_passed}
use Rattle.axis.specs.Refusals.{within}
use Rattle.place.specs.Placing.{both_below}
use Rattle.stems_cjk.specs.Answer.{StemCjk}
use Rattle.stems_cjk.specs.Hint.{stem_tests, hinted, hint_normal_stem_cjk}

pub accepts : (axis : Axis) (adjust : Bool) (rule : WidthRule) (xs : List ℤ) (i j : ℕ) (d : ℤ) → EdgesAccepted axis → rule_holds rule xs ≡ true
    → both_below axis.len i j ≡ true
    → within most_passed d ≡ true → (hint_normal_stem_cjk axis adjust rule xs i j d).answer ≡ 0
unfolding hint_normal_stem_cjk
accepts axis adjust rule xs i j d a r b w =
    ap (λ (s : StemCjk). s.answer)
    (worked (hinted axis (pos 0)) _ _ (no-refusal (stem_tests axis rule xs i j d) (a.short, (r, (a.indexed, (b, (a.in_range, (w, refl))))))))
