-- Edges whose numbers are all within document 01's old limit have the old answers: the limit stands in the tests alone, and they refuse what they refused.
use Rattle.std.specs.Prelude.{None, Some}
use mathlib.Core.Path.{◌≡◌, refl, sym, ap, ◌∙◌}
use mathlib.Core.Bool.{Bool, true, ◌&&◌}
use mathlib.Core.List.{List}
use Prim.Native.Nat.{ℕ, min}
use native.Mathlib.Omega.{arith}
use lib.IntN.{ℤ, pos, neg_ℤ}
use lib.Signed.{le_z}
use Rattle.signed.proofs.Order.{le-true, to-le-true}
use Rattle.refusals.specs.Refusal.{Test, ◌unless◌, refusal, out_of_range}
use Rattle.refusals.proofs.Tests.{and_first, and_second}
use Rattle.fixed.specs.Point.{mul_fix}
use Rattle.axis.specs.Link.{Blue}
use Rattle.axis.specs.declared.edge.Edge.{Edge}
use Rattle.axis.specs.declared.edge.Axis.{Axis}
use Rattle.axis.specs.declared.segment.Segment.{Segment}
use Rattle.axis.specs.declared.segment.Segments.{Segments}
use Rattle.axis.specs.Edge.{edge_at}
use Rattle.axis.specs.Segment.{segment_at}
use Rattle.axis.specs.Limits.{most_edges, most_segments, most_units, most_pos}
use Rattle.axis.specs.Refusals.{within, blue_holds, every_edge, every_segment, edge_numbers, edges_numbers, edges_in_range}
use Rattle.axis.proofs.Tests.{every-at}
use Rattle.mend.proofs.Plan.{every-same}
use Rattle.build.specs.Building.{scaled_holds, products_hold}

-- document 01's limit of `opos`, `fitted` and building's product before request #109
abbrev pub old_units : ℕ
old_units = 16383

-- ---- the tests at a limit
unfoldable pub blue_holds_at : ℕ → Blue → Bool
blue_holds_at m None = true
blue_holds_at m (Some z) = within m z

abbrev pub edge_numbers_at : ℕ → Edge → Bool
edge_numbers_at m e = within m e.opos && (within most_pos e.pos && blue_holds_at m e.blue)

abbrev pub edges_in_range_at : ℕ → Axis → Test
edges_in_range_at m axis = out_of_range unless every_edge (edge_numbers_at m) axis

abbrev pub scaled_holds_at : ℕ → ℤ → Segment → Bool
scaled_holds_at m scale s = within m (mul_fix s.pos scale)

abbrev pub products_hold_at : ℕ → Segments → ℤ → Bool
products_hold_at m t scale = every_segment (scaled_holds_at m scale) t

-- ---- one number
within_more : (z : ℤ) → within old_units z ≡ true → within most_units z ≡ true
within_more z e =
    let low = le-true (neg_ℤ (pos old_units)) z (and_first (le_z (neg_ℤ (pos old_units)) z) (le_z z (pos old_units)) e) in
    let high = le-true z (pos old_units) (and_second (le_z (neg_ℤ (pos old_units)) z) (le_z z (pos old_units)) e) in
    rw (to-le-true (neg_ℤ (pos most_units)) z (omega (arith, low)), to-le-true z (pos most_units) (omega (arith, high)))

-- ---- edges
-- opos and a present zone's fitted are within the old limit
abbrev pub is_old : Edge → Bool
is_old e = within old_units e.opos && blue_holds_at old_units e.blue

blue-same : (b : Blue) → blue_holds_at old_units b ≡ true → blue_holds b ≡ blue_holds_at old_units b
unfolding blue_holds blue_holds_at
blue-same None e = refl
blue-same (Some z) e = within_more z e ∙ sym e

edge_same : (e : Edge) → is_old e ≡ true → edge_numbers e ≡ edge_numbers_at old_units e
unfolding edge_numbers
edge_same e h =
    let o = and_first (within old_units e.opos) (blue_holds_at old_units e.blue) h in
    let b = blue-same e.blue (and_second (within old_units e.opos) (blue_holds_at old_units e.blue) h) in
    λ k. (within_more e.opos o ∙ sym o) k && (within most_pos e.pos && b k)

-- a call's refusal is that of its tests with the old limit, whatever they are
pub old-edges : (axis : Axis) (tests : Test → List Test) → every_edge is_old axis ≡ true
    → refusal (tests (edges_in_range axis)) ≡ refusal (tests (edges_in_range_at old_units axis))
unfolding edges_numbers
old-edges axis tests h =
    ap (λ (b : Bool). refusal (tests (out_of_range unless b)))
    (every-same (λ (i : ℕ). edge_numbers (edge_at axis i)) (λ (i : ℕ). edge_numbers_at old_units (edge_at axis i)) (min axis.len most_edges)
    (λ i g. edge_same (edge_at axis i) (every-at (λ (j : ℕ). is_old (edge_at axis j)) i (min axis.len most_edges) h g)))

-- ---- building's products
pub old-products : (t : Segments) (scale : ℤ) (tests : Bool → List Test) → products_hold_at old_units t scale ≡ true
    → refusal (tests (products_hold t scale)) ≡ refusal (tests (products_hold_at old_units t scale))
unfolding products_hold scaled_holds
old-products t scale tests h =
    ap (λ (b : Bool). refusal (tests b))
    (every-same (λ (i : ℕ). scaled_holds_at most_units scale (segment_at t i)) (λ (i : ℕ). scaled_holds_at old_units scale (segment_at t i)) (min t.len most_segments)
    (λ i g.
    let e = every-at (λ (j : ℕ). scaled_holds_at old_units scale (segment_at t j)) i (min t.len most_segments) h g in
    within_more (mul_fix (segment_at t i).pos scale) e ∙ sym e))
