-- Where originals come to by two references in their order, at request #109's range: how far from the straight line, in which order, and within which bounds.
use mathlib.Core.Path.{◌≡◌, refl, ◌∙◌}
use mathlib.Core.Bool.{Bool, true, false}
use mathlib.Core.Logic.{inl, inr, ⊎_elim}
use Prim.Native.Nat.{◌+◌, ◌≤◌, ◌<◌}
use native.Mathlib.Omega.{arith}
use lib.IntN.{ℤ, pos, nat_abs, ◌+ℤ◌, ◌-ℤ◌}
use lib.Signed.{◌≤ℤ◌}
use Rattle.signed.specs.Equality.{eq_z}
use Rattle.signed.specs.Parts.{up, dn}
use Rattle.signed.specs.Range.{Between}
use Rattle.signed.proofs.Signed.{nat_abs-is, add-law, sub-law, one-zero, lt-or-le, same, to-≡, atmost, below, ◌also◌, signed, eq_z-true, eq_z-apart}
use Rattle.fixed.specs.Point.{mul_fix, div_fix}
use Rattle.weak_contour.specs.Contour.{interpolated}
use Rattle.weak_contour.proofs.Spans.{interpolated-low, interpolated-high, interpolated-level, interpolated-between}
use Rattle.weak_contour.specs.Limits.{most_result}
use Rattle.weak_contour.specs.Steps.{Coordinate, Ordered}
use Rattle.weak.specs.Faithful.{most_inside, most_old, Within, Faithful, Passes, KeepsOrder}
use Rattle.fixed.proofs.Interpolation.{AlongLine, along-line, Inside, inside-line, closer-line, interpolation-grows}

-- ---- the three places of an original: at or below the first, between, at or above the second
pub data Place (v v1 v2 : ℤ) : Type 0 where
  low : up v + dn v1 ≤ up v1 + dn v → Place v v1 v2
  mid : up v1 + dn v < up v + dn v1 → up v + dn v2 < up v2 + dn v → Place v v1 v2
  high : up v1 + dn v < up v + dn v1 → up v2 + dn v ≤ up v + dn v2 → Place v v1 v2

-- every original has one
place_of : (v v1 v2 : ℤ) → Place v v1 v2
place_of v v1 v2 =
    ⊎_elim (λ a. ⊎_elim (λ b. mid a b) (λ b. high a b) (lt-or-le (up v + dn v2) (up v2 + dn v))) (λ a. low a) (lt-or-le (up v1 + dn v) (up v + dn v1))

-- ---- between the originals
module _ (v v1 u1 v2 u2 : ℤ) (h : Ordered v1 u1 v2 u2) (above : up v1 + dn v < up v + dn v1) (under : up v + dn v2 < up v2 + dn v) where
  -- how far behind the first's current
  abbrev pub step : ℤ
  step = mul_fix (v -ℤ v1) (div_fix (u2 -ℤ u1) (v2 -ℤ v1))

  pub along : AlongLine (v -ℤ v1) (u2 -ℤ u1) (v2 -ℤ v1) step
  along =
      along-line (v -ℤ v1) (u2 -ℤ u1) (v2 -ℤ v1) (omega (arith, sub-law v v1)) (omega (arith, sub-law v v1, sub-law v2 v1))
      (omega (arith, sub-law v2 v1, h.original1, h.original2))

  -- where the originals are at most 65,536 apart
  pub within : nat_abs (v2 -ℤ v1) ≤ most_inside → Inside (u2 -ℤ u1) step
  within k =
      inside-line (v -ℤ v1) (u2 -ℤ u1) (v2 -ℤ v1) (omega (arith, sub-law v v1)) (omega (arith, sub-law v v1, sub-law v2 v1))
      (omega (arith, nat_abs-is (v2 -ℤ v1)))

  -- the result, also where the currents are equal
  pub interpolated-is : interpolated v v1 u1 v2 u2 ≡ u1 +ℤ step
  interpolated-is = by (eq_z u1 u2) refl
    where
      by : (b : Bool) → eq_z u1 u2 ≡ b → interpolated v v1 u1 v2 u2 ≡ u1 +ℤ step
      by true e =
          let q = eq_z-true u1 u2 e in
          let f = along in
          interpolated-level v v1 u1 v2 u2 above under q ∙ same (omega (arith, signed, sub-law u2 u1, one-zero (u2 -ℤ u1), f.side_up, f.side_dn))
      by false e = interpolated-between v v1 u1 v2 u2 above under (λ q. eq_z-apart u1 u2 e q)

  -- the result less the first's current
  step_is : interpolated v v1 u1 v2 u2 -ℤ u1 ≡ step
  step_is = rw interpolated-is (same (omega (arith, signed)))

  -- demand 3 (a) there
  pub faithful-at : Faithful v v1 u1 v2 u2 (interpolated v v1 u1 v2 u2)
  faithful-at =
      let f = along in
      record {
        close = rw step_is f.close;
        beside =
            let k = sub-law u2 u1 also one-zero (u2 -ℤ u1) also f.not_above also f.not_below also f.side_up also f.side_dn in
            rw interpolated-is
            (⊎_elim (λ l. inr (atmost (omega (arith, signed)), atmost (omega (arith, signed))))
            (λ l. inl (atmost (omega (arith, signed)), atmost (omega (arith, signed))))
            (lt-or-le (up u2 + dn u1) (up u1 + dn u2)));
        inside = λ s.
            let g = within s in
            let k = sub-law u2 u1 also one-zero (u2 -ℤ u1) also g.not_above also g.not_below in
            rw interpolated-is
            (⊎_elim (λ l. inr (atmost (omega (arith, signed)), atmost (omega (arith, signed))))
            (λ l. inl (atmost (omega (arith, signed)), atmost (omega (arith, signed))))
            (lt-or-le (up u2 + dn u1) (up u1 + dn u2)));
        closer = λ s.
            rw step_is
            (closer-line (v -ℤ v1) (u2 -ℤ u1) (v2 -ℤ v1) (omega (arith, sub-law v v1)) (omega (arith, sub-law v v1, sub-law v2 v1))
            (omega (arith, nat_abs-is (v2 -ℤ v1))));
      }

-- ---- the order is kept, but for the exception
module _ (v w v1 u1 v2 u2 : ℤ) (h : Ordered v1 u1 v2 u2) (originals : up v1 + dn v2 < up v2 + dn v1) (currents : up u1 + dn u2 ≤ up u2 + dn u1)
    (le : up v + dn w ≤ up w + dn v) where
  -- an original strictly between them and one at or above the second
  passes_at : up v1 + dn v < up v + dn v1 → up v + dn v2 < up v2 + dn v → up v1 + dn w < up w + dn v1 → up v2 + dn w ≤ up w + dn v2
      → KeepsOrder v w v1 v2 (interpolated v v1 u1 v2 u2) (interpolated w v1 u1 v2 u2)
  passes_at a b c d =
      let f = along v v1 u1 v2 u2 h a b in
      rw (interpolated-is v v1 u1 v2 u2 h a b, interpolated-high w v1 u1 v2 u2 c d)
      (⊎_elim
      (λ far. inl (atmost (omega (arith, signed, sub-law u2 u1, one-zero (u2 -ℤ u1), f.not_above))))
      (λ here.
      ⊎_elim
      (λ long. inr (
        record { long = long; above = below (omega (arith, signed)); below = below (omega (arith, signed)); at_second = to-≡ w v2 (omega arith) },
        atmost (omega (
          arith,
          signed,
          sub-law u2 u1,
          one-zero (u2 -ℤ u1),
          add-law (w +ℤ (u2 -ℤ v2)) (pos 1),
          add-law w (u2 -ℤ v2),
          sub-law u2 v2,
          f.not_above,
        )),
      ))
      (λ short. let g = within v v1 u1 v2 u2 h a b short in inl (atmost (omega (arith, signed, sub-law u2 u1, one-zero (u2 -ℤ u1), g.not_above))))
      (lt-or-le most_inside (nat_abs (v2 -ℤ v1))))
      (lt-or-le (up v2 + dn w) (up w + dn v2)))

  -- an original that is not higher comes to a place that is not higher, or passes it by one
  grows_at : Place v v1 v2 → Place w v1 v2 → KeepsOrder v w v1 v2 (interpolated v v1 u1 v2 u2) (interpolated w v1 u1 v2 u2)
  grows_at (low a) (low b) = inl (rw (interpolated-low v v1 u1 v2 u2 a, interpolated-low w v1 u1 v2 u2 b) (atmost (omega (arith, signed))))
  grows_at (low a) (mid b c) =
      let f = along w v1 u1 v2 u2 h b c in
      inl (rw (interpolated-low v v1 u1 v2 u2 a, interpolated-is w v1 u1 v2 u2 h b c)
      (atmost (omega (arith, signed, sub-law u2 u1, one-zero (u2 -ℤ u1), f.side_dn))))
  grows_at (low a) (high b c) = inl (rw (interpolated-low v v1 u1 v2 u2 a, interpolated-high w v1 u1 v2 u2 b c) (atmost (omega (arith, signed))))
  grows_at (mid a b) (low c) = absurd (omega arith)
  grows_at (mid a b) (mid c d) =
      let f = along w v1 u1 v2 u2 h c d in
      let e = along v v1 u1 v2 u2 h a b in
      let g = interpolation-grows (v -ℤ v1) (w -ℤ v1) (u2 -ℤ u1) (v2 -ℤ v1) (omega (arith, sub-law v v1)) (omega (arith, sub-law v v1, sub-law w v1))
      (omega (arith, sub-law v2 v1)) in
      inl
      (rw (interpolated-is v v1 u1 v2 u2 h a b, interpolated-is w v1 u1 v2 u2 h c d)
      (atmost (omega (arith, signed, sub-law u2 u1, one-zero (u2 -ℤ u1), f.side_dn, e.side_dn, g))))
  grows_at (mid a b) (high c d) = passes_at a b c d
  grows_at (high a b) (low c) = absurd (omega arith)
  grows_at (high a b) (mid c d) = absurd (omega arith)
  grows_at (high a b) (high c d) = inl (rw (interpolated-high v v1 u1 v2 u2 a b, interpolated-high w v1 u1 v2 u2 c d) (atmost (omega (arith, signed))))

  pub grows : KeepsOrder v w v1 v2 (interpolated v v1 u1 v2 u2) (interpolated w v1 u1 v2 u2)
  grows = grows_at (place_of v v1 v2) (place_of w v1 v2)

-- ---- the bounds
module _ (v v1 u1 v2 u2 : ℤ) (h : Ordered v1 u1 v2 u2) (k : Coordinate v) where
  -- three coordinates' worth at most
  bounded_at : Place v v1 v2 → Between most_result most_result (interpolated v v1 u1 v2 u2)
  bounded_at (low a) = rw (interpolated-low v v1 u1 v2 u2 a) (omega (arith, k, h.original1, h.current1, add-law v (u1 -ℤ v1), sub-law u1 v1))
  bounded_at (mid a b) =
      let f = along v v1 u1 v2 u2 h a b in
      rw (interpolated-is v v1 u1 v2 u2 h a b)
      (omega (
        arith,
        h.current1,
        h.current2,
        add-law u1 (mul_fix (v -ℤ v1) (div_fix (u2 -ℤ u1) (v2 -ℤ v1))),
        sub-law u2 u1,
        one-zero (u2 -ℤ u1),
        f.not_above,
        f.not_below,
      ))
  bounded_at (high a b) = rw (interpolated-high v v1 u1 v2 u2 a b) (omega (arith, k, h.original2, h.current2, add-law v (u2 -ℤ v2), sub-law u2 v2))

  pub bounded : Between most_result most_result (interpolated v v1 u1 v2 u2)
  bounded = bounded_at (place_of v v1 v2)
