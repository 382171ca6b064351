-- An accepted call, and its outcome.
use mathlib.Core.Path.{◌≡◌, refl, sym, ap, ◌∙◌}
use mathlib.Core.Bool.{Bool, true, false}
use Prim.Native.Nat.{ℕ, ◌≤◌}
use native.Mathlib.Omega.{arith}
use lib.IntN.{ℤ}
use Rattle.signed.proofs.Choices.{cond-true, cond-false}
use Rattle.refusals.specs.Refusal.{refusal, no_room}
use Rattle.refusals.proofs.Tests.{all_hold}
use Rattle.axis.specs.declared.edge.Axis.{Axis}
use Rattle.axis.specs.declared.kinds.Dimension.{Dimension}
use Rattle.axis.specs.declared.kinds.Direction.{Direction}
use Rattle.axis.specs.declared.segment.Segments.{Segments}
use Rattle.axis.specs.Accepted.{SegmentsWithin}
use Rattle.axis.proofs.Acceptance.{segments-within}
use Rattle.build_join.specs.declared.join.Joined.{Joined}
use Rattle.build_join.specs.declared.rules.Rules.{Rules}
use Rattle.build_join.specs.Joining.{shown}
use Rattle.build_join.specs.Walks.{Joinable}
use Rattle.build_join.proofs.Steps.{of-full}
use Rattle.build_properties.specs.Properties.{edge_properties}
use Rattle.build.specs.declared.numbers.Thresholds.{Thresholds}
use Rattle.build.specs.Building.{numbers_hold, products_hold, building_tests, rules_of, last_state, built_segments, beside, built}
use Rattle.build.proofs.Scales.{right, products-within}

-- what an accepted call may use
pub record Accepted (t : Segments) (scale : ℤ) (by : Thresholds) : Type 0 where
  pub within : SegmentsWithin t
  pub numbers : numbers_hold scale by ≡ true
  pub products : products_hold t scale ≡ true

pub accepted : (t : Segments) (edges : ℕ) (ttb : Bool) (scale : ℤ) (by : Thresholds) (k : ℕ) → k ≡ refusal (building_tests t edges ttb scale by) → k ≤ 0
    → Accepted t scale by
accepted t edges ttb scale by k e h =
    let z : k ≡ 0 = omega arith in
    let a = all_hold (building_tests t edges ttb scale by) refl (sym e ∙ z) in
    let b = a.1.1.1 in
    record { within = segments-within t a.0 b.1.0 b.1.1.0; numbers = b.0; products = b.1.1.1.0 }

pub joinable : (t : Segments) (scale : ℤ) (by : Thresholds) → Accepted t scale by → (dim : Dimension) (major : Direction) (cjk : Bool) (r : Rules)
    → r ≡ rules_of dim major cjk scale by → Joinable t r
joinable t scale by A dim major cjk r e =
    let q = right scale by A.numbers in
    rw e (record { few = A.within.few; length = q.length; opos = products-within t scale A.within.few A.products })

-- ---- the outcome
module _ (t : Segments) (old : Axis) (r : Rules) (j : Joined) (J : j ≡ shown t r (last_state t r)) where
  full_is : j.full ≡ (last_state t r).full
  full_is = of-full t r (last_state t r) j.full j.axis j.next J

  -- a 129th edge was called for
  pub full-built : j.full ≡ true → beside t old no_room ≡ built t old r (last_state t r)
  unfolding built
  full-built f = sym (cond-true _ _ _ (sym full_is ∙ f))

  -- none was
  pub done-built : j.full ≡ false → (u : Segments) (axis : Axis) → u ≡ built_segments t (last_state t r) → axis ≡ edge_properties j.axis u
      → beside u axis 0 ≡ built t old r (last_state t r)
  unfolding built
  done-built f u axis p q =
      rw (q, p)
      (ap (λ (x : Joined). beside (built_segments t (last_state t r)) (edge_properties x.axis (built_segments t (last_state t r))) 0) J
      ∙ sym (cond-false _ _ _ (sym full_is ∙ f)))
