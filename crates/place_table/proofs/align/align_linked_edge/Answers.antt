-- `place_table::align::align_linked_edge` meets its contract.
use mathlib.Core.Path.{◌≡◌, refl, sym, ap, ◌∙◌}
use mathlib.Core.Bool.{true}
use mathlib.Core.List.{List}
use lib.IntN.{ℤ}
use Prim.Native.Nat.{ℕ, ◌<◌}
use borrow.Author.Rules.{rules}
use native.Mathlib.Omega.{arith}
use Rattle.refusals.specs.Refusal.{refusal}
use Rattle.refusals.proofs.Tests.{all_hold, answered-no, answered-yes}
use Rattle.refusals.proofs.Outcomes.{number-above, exit}
use Rattle.fixed.specs.declared.width.WidthRule.{WidthRule}
use Rattle.fixed.specs.Width.{rule_holds}
use Rattle.axis.specs.declared.edge.Axis.{Axis}
use Rattle.axis.specs.Edge.{put_edge}
use Rattle.axis.specs.Limits.{most_edges, most_pos}
use Rattle.axis.specs.Accepted.{AxisWithin}
use Rattle.axis.proofs.Acceptance.{axis-within}
use Rattle.place.proofs.Reach.{below-first, below-second, in_table, in_reach}
use Rattle.place.specs.Answer.{fitted_of}
use Rattle.place.specs.Fitting.{linked_tests, fitted, align_linked_edge}
use Rattle.place_table.proofs.align.align_linked_edge.Goals as goal

-- what the tests of the call say of its arguments
record Told (axis : Axis) (rule : WidthRule) (xs : List ℤ) (base stem : ℕ) : Type 0 where
  within : AxisWithin most_pos axis
  rule_held : rule_holds rule xs ≡ true
  base_below : base < axis.len
  stem_below : stem < axis.len
  base_inside : base < most_edges
  stem_inside : stem < most_edges

told : (axis : Axis) (rule : WidthRule) (xs : List ℤ) (base stem : ℕ) → 0 ≡ refusal (linked_tests axis rule xs base stem) → Told axis rule xs base stem
told axis rule xs base stem e =
    let h = all_hold (linked_tests axis rule xs base stem) refl (sym e) in
    let a = axis-within axis h.0 h.1.1.0 h.1.1.1.1.0 in
    let b = below-first _ _ _ h.1.1.1.0 in
    let s = below-second _ _ _ h.1.1.1.0 in
    record { within = a; rule_held = h.1.0; base_below = b; stem_below = s; base_inside = in_table _ _ _ a b; stem_inside = in_table _ _ _ a s }

-- ---- the answers
pub returns-in_err-linked_refusal : goal.returns-in_err-linked_refusal
unfolding align_linked_edge
returns-in_err-linked_refusal c =
    ap (fitted_of c.args.axis) (exit _ _ c.from_residual.ensures.1) ∙ answered-no _ _ (fitted c.args.axis) _ c.in_err-linked_refusal.ensures (number-above _)

pub offset_bounds-axis-base : goal.offset_bounds-axis-base
offset_bounds-axis-base c = let h = (told c.args.axis c.args.rule c.args.standards.now c.args.base c.args.stem c.in_ok-linked_refusal.ensures).base_inside in search rules

pub bounds-axis-base : goal.bounds-axis-base
bounds-axis-base c = (told c.args.axis c.args.rule c.args.standards.now c.args.base c.args.stem c.in_ok-linked_refusal.ensures).base_inside

pub offset_bounds-axis-stem : goal.offset_bounds-axis-stem
offset_bounds-axis-stem c = let h = (told c.args.axis c.args.rule c.args.standards.now c.args.base c.args.stem c.in_ok-linked_refusal.ensures).stem_inside in search rules

pub bounds-axis-stem : goal.bounds-axis-stem
bounds-axis-stem c = (told c.args.axis c.args.rule c.args.standards.now c.args.base c.args.stem c.in_ok-linked_refusal.ensures).stem_inside

pub linked_edge-requires : goal.linked_edge-requires
linked_edge-requires c =
    let t = told c.args.axis c.args.rule c.args.standards.now c.args.base c.args.stem c.in_ok-linked_refusal.ensures in
    record { standards_value = t.rule_held; in_reach = (in_reach _ _ _ (omega arith) t.within t.base_below, in_reach _ _ _ (omega arith) t.within t.stem_below) }

pub offset_bounds-aligned-stem : goal.offset_bounds-aligned-stem
offset_bounds-aligned-stem c = let h = (told c.args.axis c.args.rule c.args.standards.now c.args.base c.args.stem c.in_ok-linked_refusal.ensures).stem_inside in search rules

pub bounds-aligned-stem : goal.bounds-aligned-stem
bounds-aligned-stem c = (told c.args.axis c.args.rule c.args.standards.now c.args.base c.args.stem c.in_ok-linked_refusal.ensures).stem_inside

pub returns : goal.returns
unfolding align_linked_edge
returns c =
    answered-yes _ _ (fitted c.args.axis) _ _ c.in_ok-linked_refusal.ensures (omega arith)
    (λ i. fitted (put_edge c.args.axis c.args.stem (c.linked_edge.ensures i)) 0)
