-- The pass over axes that are alike but for their marks comes to the same (request #105).
use Rattle.std.specs.Prelude.{None}
use mathlib.Core.Path.{◌≡◌, refl, ap, ◌∙◌}
use mathlib.Core.List.{List}
use Prim.Native.Nat.{ℕ}
use lib.IntN.{ℤ}
use Rattle.fixed.specs.declared.width.WidthRule.{WidthRule}
use Rattle.axis.specs.declared.edge.Axis.{Axis}
use Rattle.axis.specs.Visits.{visits}
use Rattle.axis.proofs.Alike.{AlikeAxis, alike_len, visits-alike}
use Rattle.zones.specs.Zones.{State, visit}
use Rattle.zones.proofs.Alike.{AlikeState, visit-alike}
use Rattle.zones.specs.Pass.{anchored, outcome, blues_of, unmarked_anchored}

pub blues-alike : (rule : WidthRule) (xs : List ℤ) (a b : Axis) → AlikeAxis a b → unmarked_anchored (blues_of rule xs a) ≡ unmarked_anchored (blues_of rule xs b)
unfolding blues_of
blues-alike rule xs a b h =
    let begun : Axis → State = λ (axis : Axis). record { axis = axis; anchor = None } in
    let g : AlikeState (begun a) (begun b) = record { axis = h; anchor = refl } in
    let k = visits-alike AlikeState (visit rule xs) (visit-alike rule xs) a.len 0 (begun a) (begun b) g in
    (λ i. anchored (k.axis.same i) (k.anchor i) 0) ∙ ap (λ (n : ℕ). unmarked_anchored (outcome (visits (visit rule xs) n 0 (begun b)))) (alike_len a b h)
