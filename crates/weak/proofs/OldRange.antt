-- Outlines whose numbers are all within document 01's old limit have the old answers: the same refusal, and the same currents behind it.
use mathlib.Core.Path.{◌≡◌, refl, ap}
use mathlib.Core.Bool.{Bool, true, false, not, ◌&&◌}
use mathlib.Core.List.{List, [], ◌∷◌}
use Prim.Native.Nat.{ℕ, ◌≤◌}
use native.Mathlib.Omega.{arith}
use borrow.Author.Tests.{leb-true, le-leb}
use lib.ListN.{length}
use lib.IntN.{ℤ, nat_abs, ◌-ℤ◌}
use Rattle.signed.proofs.Signed.{nat_abs-is, one-zero, sub-law}
use Rattle.refusals.specs.Refusal.{refusal, answered}
use Rattle.refusals.proofs.Tests.{and_first, and_second}
use Rattle.weak_contour.specs.Contour.{at}
use Rattle.weak.specs.Weak.{coordinate_holds, coordinates_hold, outline_tests, gentle, weak_tests, aligned_at, list_of, result}
use Rattle.weak.proofs.Refusals.{coordinates-of, hold-more}
use Rattle.weak_contour.specs.Limits.{most_coordinate}
use Rattle.weak.proofs.Steepness.{calm-gentle}

-- document 01's limit before request #109
abbrev pub old_coordinate : ℕ
old_coordinate = 16383

not-not : (b : Bool) → false ≡ not b → b ≡ true
not-not true e = refl
not-not false e = absurd (let z : ◌≡◌ {A = ℕ} 0 1 = cc in omega arith)

module _ (o c : List ℤ) (t es : List ℕ) (originals : coordinates_hold old_coordinate o ≡ true) (currents : coordinates_hold old_coordinate c ≡ true) where
  -- no point is too steep
  old-gentle : gentle o c t es ≡ true
  old-gentle =
      let ho = coordinates-of old_coordinate o originals in
      let hc = coordinates-of old_coordinate c currents in
      not-not (gentle o c t es)
      (calm-gentle o c t es (λ i. omega (arith, nat_abs-is (at o i), ho i))
      (λ i j. omega (
        arith,
        hc i,
        hc j,
        nat_abs-is (at c i),
        nat_abs-is (at c j),
        nat_abs-is (at c j -ℤ at c i),
        one-zero (at c j -ℤ at c i),
        sub-law (at c j)
            (at c i),
      )))

  pub old-refusal : refusal (weak_tests o c t es) ≡ refusal (outline_tests old_coordinate o c t es)
  unfolding refusal
  old-refusal =
      rw (
        originals,
        currents,
        old-gentle,
        hold-more old_coordinate most_coordinate o (omega arith) originals,
        hold-more old_coordinate most_coordinate c (omega arith) currents,
      )

  pub old-result : result o c t es ≡ answered (refusal (outline_tests old_coordinate o c t es)) (λ _. c) (list_of (aligned_at o c t es) 0 (length c))
  unfolding result
  old-result = ap (λ (k : ℕ). answered k (λ _. c) (list_of (aligned_at o c t es) 0 (length c))) old-refusal
