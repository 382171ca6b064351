-- Where an original comes to by two references whose currents do not fall: not beyond a reference on the other side of which it was, but for request #109's one
-- unit.
use mathlib.Core.Path.{◌≡◌, ◌∙◌, subst, sym}
use mathlib.Core.Logic.{◌⊎◌, inl, inr, ⊎_elim}
use Prim.Native.Nat.{◌+◌, ◌≤◌, ◌<◌}
use native.Mathlib.Omega.{arith}
use lib.IntN.{ℤ}
use lib.Signed.{◌≤ℤ◌, ◌<ℤ◌}
use Rattle.signed.specs.Parts.{up, dn}
use Rattle.signed.proofs.Signed.{signed, same, atmost, to-≡, lt-or-le}
use Rattle.weak_contour.specs.Contour.{interpolated}
use Rattle.weak_contour.specs.Steps.{Ordered}
use Rattle.weak_contour.proofs.Spans.{interpolated-low, interpolated-high}
use Rattle.weak.specs.Faithful.{KeepsOrder}
use Rattle.weak.proofs.Interpolated.{grows}

module _ (v v1 u1 v2 u2 : ℤ) (h : Ordered v1 u1 v2 u2) (rise : u1 ≤ℤ u2) where
  -- where it comes to
  abbrev pub z : ℤ
  z = interpolated v v1 u1 v2 u2

  -- the references' originals themselves come to their currents
  at_first : interpolated v1 v1 u1 v2 u2 ≡ u1
  at_first = interpolated-low v1 v1 u1 v2 u2 (omega arith) ∙ same (omega (arith, signed))

  at_second : up v1 + dn v2 < up v2 + dn v1 → interpolated v2 v1 u1 v2 u2 ≡ u2
  at_second span = interpolated-high v2 v1 u1 v2 u2 span (omega arith) ∙ same (omega (arith, signed))

  -- outside both
  pub under_first : v <ℤ v1 → z ≤ℤ u1
  under_first l = rw (interpolated-low v v1 u1 v2 u2 (omega (arith, signed))) (atmost (omega (arith, signed)))

  pub over-second : v2 <ℤ v → u2 ≤ℤ z
  over-second l = let a = h.order in rw (interpolated-high v v1 u1 v2 u2 (omega (arith, signed)) (omega (arith, signed))) (atmost (omega (arith, signed)))

  -- a span apart
  module _ (span : up v1 + dn v2 < up v2 + dn v1) where
    under-far : v <ℤ v2 → KeepsOrder v v2 v1 v2 z u2
    under-far l = subst (λ (y : ℤ). KeepsOrder v v2 v1 v2 z y) (at_second span) (grows v v2 v1 u1 v2 u2 h span (omega (arith, signed)) (omega (arith, signed)))

    over-far : v1 <ℤ v → u1 ≤ℤ z
    over-far l =
        ⊎_elim (λ k. subst (λ (y : ℤ). y ≤ℤ z) at_first k) (λ e. let a = e.0.above in absurd (omega (arith, signed)))
        (grows v1 v v1 u1 v2 u2 h span (omega (arith, signed)) (omega (arith, signed)))

  -- the references are a span apart, or their originals are equal
  apart-or-level : (up v1 + dn v2 < up v2 + dn v1) ⊎ (v1 ≡ v2)
  apart-or-level =
      ⊎_elim (λ l. inl l) (λ g. let a = h.order in inr (to-≡ v1 v2 (omega (arith, signed)))) (lt-or-le (up v1 + dn v2) (up v2 + dn v1))

  -- against the second and against the first, whichever
  pub under-second : v <ℤ v2 → KeepsOrder v v2 v1 v2 z u2
  under-second l =
      ⊎_elim (λ span. under-far span l)
      (λ level. let a = under_first (subst (λ (w : ℤ). v <ℤ w) (sym level) l) in inl (omega (arith, signed)))
      apart-or-level

  pub over_first : v1 <ℤ v → u1 ≤ℤ z
  over_first l =
      ⊎_elim (λ span. over-far span l) (λ level. let a = over-second (subst (λ (w : ℤ). w <ℤ v) level l) in omega (arith, signed)) apart-or-level
