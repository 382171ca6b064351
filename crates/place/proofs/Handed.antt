-- Edges that are accepted, with parameters that are right, are answered by 0 by each of the calls.
use Rattle.std.specs.Prelude.{None}
use mathlib.Core.Path.{◌≡◌, refl, ap}
use mathlib.Core.Bool.{true, false}
use mathlib.Core.List.{List}
use Prim.Native.Nat.{ℕ}
use lib.Dec.{ltb}
use lib.IntN.{ℤ}
use Rattle.refusals.proofs.Answers.{worked}
use Rattle.refusals.proofs.Tests.{no-refusal}
use Rattle.fixed.specs.declared.width.WidthRule.{WidthRule}
use Rattle.fixed.specs.Width.{rule_holds}
use Rattle.axis.specs.declared.edge.Axis.{Axis}
use Rattle.axis.specs.Handed.{EdgesAccepted}
use Rattle.place.specs.declared.adjust.LinkDir.{LinkDir}
use Rattle.place.specs.Placing.{both_below}
use Rattle.place.specs.Answer.{Fitted}
use Rattle.place.specs.Answer.{Bounds}
use Rattle.place.specs.Fitting.{
  linked_tests,
  serif_tests,
  edge_tests,
  adjust_tests,
  fitted,
  bounds,
  align_linked_edge,
  align_serif_edge,
  latin_remaining_bounds,
  adjust_link,
}

module _ (axis : Axis) (a : EdgesAccepted axis) where
  pub linked-accepts : (rule : WidthRule) (xs : List ℤ) (base stem : ℕ) → rule_holds rule xs ≡ true → both_below axis.len base stem ≡ true
      → (align_linked_edge axis rule xs base stem).answer ≡ 0
  unfolding align_linked_edge
  linked-accepts rule xs base stem r b =
      ap (λ (f : Fitted). f.answer) (worked (fitted axis) _ _
      (no-refusal (linked_tests axis rule xs base stem) (a.short, (r, (a.indexed, (b, (a.in_range, refl)))))))

  pub serif-accepts : (base serif : ℕ) → both_below axis.len base serif ≡ true → (align_serif_edge axis base serif).answer ≡ 0
  unfolding align_serif_edge
  serif-accepts base serif b =
      ap (λ (f : Fitted). f.answer) (worked (fitted axis) _ _ (no-refusal (serif_tests axis base serif) (a.short, (a.indexed, (b, (a.in_range, refl))))))

  pub bounds-accepts : (i : ℕ) → ltb i axis.len ≡ true → (latin_remaining_bounds axis i).answer ≡ 0
  unfolding latin_remaining_bounds
  bounds-accepts i b =
      ap (λ (f : Bounds). f.answer) (worked (bounds None None) _ _
      (no-refusal (edge_tests axis i) (a.short, (a.indexed, (b, (a.in_range, refl))))))

  pub adjust-accepts : (i : ℕ) (dir : LinkDir) → ltb i axis.len ≡ true → (adjust_link axis i dir false).answer ≡ 0
  unfolding adjust_link
  adjust-accepts i dir b =
      ap (λ (f : Fitted). f.answer) (worked (fitted axis) _ _
      (no-refusal (adjust_tests axis i false) (a.short, (refl, (a.indexed, (b, (a.in_range, refl)))))))
