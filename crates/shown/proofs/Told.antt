-- The winding modulo 65,536 tells whether a pixel is black: the lines of 4,096 points cross a row at most 34,816 times upward, and as often downward.
-- Assumes nothing.
use mathlib.Core.Path.{◌≡◌, refl}
use mathlib.Core.Bool.{Bool, true, false, not}
use mathlib.Core.List.{List}
use Prim.Native.Nat.{ℕ, ◌+◌, ◌*◌, ◌%◌, ◌≤◌, ◌<◌}
use native.Mathlib.Omega.{arith}
use borrow.Author.Tests.{eqb-true, eqb-false, lt-ltb, le-ltb}
use lib.Dec.{ltb, eqb}
use Rattle.weak_contour.specs.Limits.{most_points}
use Rattle.weak.specs.Weak.{ends_hold}
use Rattle.path_trip.specs.Path.{Points}
use Rattle.shown_rows.specs.Crossing.{centre}
use Rattle.shown_rows.proofs.Closed.{unwound, none_left}
use Rattle.shown.specs.Shown.{lines_of, ups, downs, black}
use Rattle.shown.proofs.Tallies.{ups-most, downs-most}
use Rattle.shown.proofs.Outlines.{outline-even, outline-few}

some : {r : ℕ} → (r ≡ 0 → ⊥) → 0 < r
some {r} h = omega arith

told : (u d : ℕ) → u < 65536 → d < 65536 → not (eqb u d) ≡ ltb 0 ((u + 65535 * d) % 65536)
told u d h k = by (eqb u d) refl
  where
    by : (t : Bool) → eqb u d ≡ t → not t ≡ ltb 0 ((u + 65535 * d) % 65536)
    by true e = let z = none_left u d (eqb-true u d e) in rw (le-ltb 0 ((u + 65535 * d) % 65536) (omega arith))
    by false e = rw (lt-ltb 0 ((u + 65535 * d) % 65536) (some (λ z. eqb-false u d e (unwound u d h k z))))

module _ (half m : ℕ) (o : Points) (n : ℕ) (es : List ℕ) (few : n ≤ most_points) (ends : ends_hold 0 n es ≡ true) where
  pub ups-few : (x y : ℕ) → ups (lines_of half m o 0 es) x y < 65536
  ups-few x y = omega (arith, ups-most x y (lines_of half m o 0 es), outline-few half m o y n 0 es ends)

  pub downs-few : (x y : ℕ) → downs (lines_of half m o 0 es) x y < 65536
  downs-few x y = omega (arith, downs-most x y (lines_of half m o 0 es), outline-even half m o y 0 es, outline-few half m o y n 0 es ends)

  pub black-told : (i j : ℕ)
      → black (lines_of half m o 0 es) i j
      ≡ ltb 0 ((ups (lines_of half m o 0 es) (centre i) (centre j) + 65535 * downs (lines_of half m o 0 es) (centre i) (centre j)) % 65536)
  black-told i j =
      told (ups (lines_of half m o 0 es) (centre i) (centre j)) (downs (lines_of half m o 0 es) (centre i) (centre j))
      (ups-few (centre i) (centre j))
      (downs-few (centre i) (centre j))
