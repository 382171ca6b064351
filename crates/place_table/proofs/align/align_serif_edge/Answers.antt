-- `place_table::align::align_serif_edge` meets its contract.
use mathlib.Core.Path.{◌≡◌, refl, sym, ap, ◌∙◌}
use Prim.Native.Nat.{ℕ, ◌<◌}
use borrow.Author.Rules.{rules}
use native.Mathlib.Omega.{arith}
use Rattle.refusals.specs.Refusal.{refusal}
use Rattle.refusals.proofs.Tests.{all_hold, answered-no, answered-yes}
use Rattle.refusals.proofs.Outcomes.{number-above, exit}
use Rattle.axis.specs.declared.edge.Axis.{Axis}
use Rattle.axis.specs.Edge.{put_edge}
use Rattle.axis.specs.Limits.{most_edges, most_pos}
use Rattle.axis.specs.Accepted.{AxisWithin}
use Rattle.axis.proofs.Acceptance.{axis-within}
use Rattle.place.proofs.Reach.{below-first, below-second, in_table, in_reach}
use Rattle.place.specs.Answer.{fitted_of}
use Rattle.place.specs.Fitting.{serif_tests, fitted, align_serif_edge}
use Rattle.place_table.proofs.align.align_serif_edge.Goals as goal

-- what the tests of the call say of its arguments
record Told (axis : Axis) (base serif : ℕ) : Type 0 where
  within : AxisWithin most_pos axis
  base_below : base < axis.len
  serif_below : serif < axis.len
  base_inside : base < most_edges
  serif_inside : serif < most_edges

told : (axis : Axis) (base serif : ℕ) → 0 ≡ refusal (serif_tests axis base serif) → Told axis base serif
told axis base serif e =
    let h = all_hold (serif_tests axis base serif) refl (sym e) in
    let a = axis-within axis h.0 h.1.0 h.1.1.1.0 in
    let b = below-first _ _ _ h.1.1.0 in
    let s = below-second _ _ _ h.1.1.0 in
    record { within = a; base_below = b; serif_below = s; base_inside = in_table _ _ _ a b; serif_inside = in_table _ _ _ a s }

-- ---- the answers
pub returns-in_err-serif_refusal : goal.returns-in_err-serif_refusal
unfolding align_serif_edge
returns-in_err-serif_refusal c =
    ap (fitted_of c.args.axis) (exit _ _ c.from_residual.ensures.1) ∙ answered-no _ _ (fitted c.args.axis) _ c.in_err-serif_refusal.ensures (number-above _)

pub offset_bounds-axis-base : goal.offset_bounds-axis-base
offset_bounds-axis-base c = let h = (told c.args.axis c.args.base c.args.serif c.in_ok-serif_refusal.ensures).base_inside in search rules

pub bounds-axis-base : goal.bounds-axis-base
bounds-axis-base c = (told c.args.axis c.args.base c.args.serif c.in_ok-serif_refusal.ensures).base_inside

pub offset_bounds-axis-serif : goal.offset_bounds-axis-serif
offset_bounds-axis-serif c = let h = (told c.args.axis c.args.base c.args.serif c.in_ok-serif_refusal.ensures).serif_inside in search rules

pub bounds-axis-serif : goal.bounds-axis-serif
bounds-axis-serif c = (told c.args.axis c.args.base c.args.serif c.in_ok-serif_refusal.ensures).serif_inside

pub serif_edge-requires : goal.serif_edge-requires
serif_edge-requires c =
    let t = told c.args.axis c.args.base c.args.serif c.in_ok-serif_refusal.ensures in
    (in_reach _ _ _ (omega arith) t.within t.base_below, in_reach _ _ _ (omega arith) t.within t.serif_below)

pub offset_bounds-aligned-serif : goal.offset_bounds-aligned-serif
offset_bounds-aligned-serif c = let h = (told c.args.axis c.args.base c.args.serif c.in_ok-serif_refusal.ensures).serif_inside in search rules

pub bounds-aligned-serif : goal.bounds-aligned-serif
bounds-aligned-serif c = (told c.args.axis c.args.base c.args.serif c.in_ok-serif_refusal.ensures).serif_inside

pub returns : goal.returns
unfolding align_serif_edge
returns c =
    answered-yes _ _ (fitted c.args.axis) _ _ c.in_ok-serif_refusal.ensures (omega arith)
    (λ i. fitted (put_edge c.args.axis c.args.serif (c.serif_edge.ensures i)) 0)
