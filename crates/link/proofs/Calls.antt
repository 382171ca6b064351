-- An accepted call: what it may use.
use mathlib.Core.Path.{◌≡◌, refl, sym, ◌∙◌}
use mathlib.Core.Bool.{true}
use Prim.Native.Nat.{ℕ, ◌≤◌}
use native.Mathlib.Omega.{arith}
use lib.IntN.{ℤ}
use Rattle.refusals.specs.Refusal.{refusal}
use Rattle.refusals.proofs.Tests.{all_hold}
use Rattle.axis.specs.declared.segment.Segments.{Segments}
use Rattle.axis.specs.Accepted.{SegmentsWithin}
use Rattle.axis.specs.Refusals.{segments_nexts}
use Rattle.axis.proofs.Acceptance.{segments-within}
use Rattle.link.specs.Linking.{numbers_hold, linking_tests}

-- what an accepted call may use
pub record Accepted (t : Segments) (upem scale : ℤ) : Type 0 where
  pub within : SegmentsWithin t
  pub numbers : numbers_hold upem scale ≡ true
  pub nexts : segments_nexts t ≡ true

pub accepted : (t : Segments) (upem scale : ℤ) (k : ℕ) → k ≡ refusal (linking_tests t upem scale) → k ≤ 0 → Accepted t upem scale
accepted t upem scale k e h =
    let z : k ≡ 0 = omega arith in
    let a = all_hold (linking_tests t upem scale) refl (sym e ∙ z) in
    record { within = segments-within t a.0 a.1.1.0 a.1.1.1.1.0; numbers = a.1.0; nexts = a.1.1.1.0 }
