-- A square pixel, moved by a pixel to the right and one down: that the laws speak of outlines.
use mathlib.Core.Path.{◌≡◌, refl}
use mathlib.Core.List.{[], ◌∷◌}
use Prim.Native.Nat.{ℕ, zero, suc, ◌≤◌, ◌<◌}
use native.Mathlib.Omega.{arith}
use lib.IntN.{ℤ, pos, negsuc, nat_abs, ◌+ℤ◌, ◌*ℤ◌}
use Rattle.weak_contour.specs.Contour.{at}
use Rattle.weak_contour.specs.Limits.{most_coordinate}
use Rattle.weak.specs.Weak.{ends_hold}
use Rattle.path_trip.specs.Path.{Points, points}
use Rattle.shown.specs.Shown.{lines_of}
use Rattle.shown.specs.Field.{field_half, Reach, InField}
use Rattle.shown.specs.Moves.{Moved, ShowSame}
use Rattle.shown.proofs.Moved.{moved-shows}

abbrev square : Points
square = points (pos 0 ∷ pos 64 ∷ pos 64 ∷ pos 0 ∷ []) (pos 0 ∷ pos 0 ∷ pos 64 ∷ pos 64 ∷ []) (1 ∷ 1 ∷ 1 ∷ 1 ∷ [])

abbrev aside : Points
aside = points (pos 64 ∷ pos 128 ∷ pos 128 ∷ pos 64 ∷ []) (negsuc 63 ∷ negsuc 63 ∷ pos 0 ∷ pos 0 ∷ []) (1 ∷ 1 ∷ 1 ∷ 1 ∷ [])

aside_moved : Moved 1 4 (pos 1) (negsuc 0) square aside
aside_moved = record { marks = refl; xs = λ i h. in-x i h; ys = λ i h. in-y i h }
  where
    in-x : (i : ℕ) → i < 4 → pos 1 *ℤ at aside.xs i ≡ pos 1 *ℤ at square.xs i +ℤ pos 64 *ℤ pos 1
    in-x zero h = refl
    in-x (suc zero) h = refl
    in-x (suc (suc zero)) h = refl
    in-x (suc (suc (suc zero))) h = refl
    in-x (suc (suc (suc (suc i)))) h = absurd (omega arith)

    in-y : (i : ℕ) → i < 4 → pos 1 *ℤ at aside.ys i ≡ pos 1 *ℤ at square.ys i +ℤ pos 64 *ℤ negsuc 0
    in-y zero h = refl
    in-y (suc zero) h = refl
    in-y (suc (suc zero)) h = refl
    in-y (suc (suc (suc zero))) h = refl
    in-y (suc (suc (suc (suc i)))) h = absurd (omega arith)

-- four numbers within the limits
four-reach : (x y z w : ℤ) → nat_abs x ≤ most_coordinate → nat_abs y ≤ most_coordinate → nat_abs z ≤ most_coordinate → nat_abs w ≤ most_coordinate
    → Reach 1 (x ∷ y ∷ z ∷ w ∷ [])
four-reach x y z w a b c d zero = omega (arith, a)
four-reach x y z w a b c d (suc zero) = omega (arith, b)
four-reach x y z w a b c d (suc (suc zero)) = omega (arith, c)
four-reach x y z w a b c d (suc (suc (suc zero))) = omega (arith, d)
four-reach x y z w a b c d (suc (suc (suc (suc i)))) = omega arith

square-in : InField square 1
square-in =
    record {
      some = omega arith;
      most = omega arith;
      wide = four-reach (pos 0) (pos 64) (pos 64) (pos 0) (omega arith) (omega arith) (omega arith) (omega arith);
      high = four-reach (pos 0) (pos 0) (pos 64) (pos 64) (omega arith) (omega arith) (omega arith) (omega arith);
    }

aside-in : InField aside 1
aside-in =
    record {
      some = omega arith;
      most = omega arith;
      wide = four-reach (pos 64) (pos 128) (pos 128) (pos 64) (omega arith) (omega arith) (omega arith) (omega arith);
      high = four-reach (negsuc 63) (negsuc 63) (pos 0) (pos 0) (omega arith) (omega arith) (omega arith) (omega arith);
    }

shows_same : ShowSame (lines_of field_half 1 square 0 (3 ∷ [])) (lines_of field_half 1 aside 0 (3 ∷ []))
unfolding ends_hold
shows_same = moved-shows 1 square aside 4 (3 ∷ []) refl square-in aside-in (pos 1) (negsuc 0) aside_moved
