-- Demand 3 of what depends on the dragged point, for every outcome that the promise of `drag_point` allows with answer 0.
use mathlib.Core.Path.{◌≡◌, refl, sym, ◌∙◌}
use mathlib.Core.Bool.{true}
use mathlib.Core.List.{List}
use Prim.Native.Nat.{ℕ, ◌<◌}
use native.Mathlib.Omega.{arith}
use lib.ListN.{length}
use lib.IntN.{ℤ}
use Rattle.refusals.specs.Refusal.{refusal}
use Rattle.weak_contour.specs.Contour.{at}
use Rattle.weak.specs.Weak.{weak_tests, result}
use Rattle.weak.specs.Faithful.{Demand3}
use Rattle.weak.proofs.Refusals.{accepted}
use Rattle.weak.proofs.Determined.{result-at}
use Rattle.weak.proofs.Faithful.{demand_3}
use Rattle.weak_drag.specs.Drag.{depends, Dragged}
use Rattle.weak_drag.specs.Faithful.{DragDemand3}
use Rattle.weak_drag.proofs.Refusals.{drag-accepted}
use Rattle.weak_drag.proofs.Refitting.{depends-below}
use Rattle.weak_drag.proofs.Drags.{follows-p}

module _ (o c d : List ℤ) (t es : List ℕ) (x : ℕ) (e : Dragged o c t es x 0 d) where
  -- the full alignment accepts the buffer
  fine : refusal (weak_tests o c t es) ≡ 0
  fine = drag-accepted o c t es x (sym e.answer)

  full : Demand3 o c t es (result o c t es)
  full = demand_3 o c (result o c t es) t es (record { answer = sym fine; currents = refl })

  -- and gives what depends on the point the place that the drag gives it
  same : (i : ℕ) → depends t es x i ≡ true → at d i ≡ at (result o c t es) i
  same i q =
      let a = accepted o c t es fine in
      let h : i < length c = let b = depends-below t es (length o) x a.ends i q in omega (arith, a.currents_length) in
      follows-p o c d t es x e i h q ∙ sym (result-at o c t es fine i h)

  pub drag-demand-3 : DragDemand3 o c t es x d
  drag-demand-3 = record {
    follows = λ i q l. rw (same i q) (full.follows i l);
    in_order = λ p r w i j a b u v le. rw (same i a, same j b) (full.in_order p r w i j u v le);
    equal = λ p r w i j a b u v q. same i a ∙ full.equal p r w i j u v q ∙ sym (same j b);
  }
