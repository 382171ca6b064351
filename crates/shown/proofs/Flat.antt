-- An outline whose points all have one x, or all one y, has no black pixel. Assumes nothing.
use mathlib.Core.Path.{◌≡◌, refl, ap}
use mathlib.Core.Logic.{⊎_elim}
use mathlib.Core.Bool.{true, false}
use mathlib.Core.List.{List}
use Prim.Native.Nat.{ℕ, ◌+◌, ◌*◌, ◌<◌}
use native.Mathlib.Omega.{arith}
use lib.IntN.{ℤ, pos, nat_abs, ◌+ℤ◌, ◌-ℤ◌, ◌*ℤ◌}
use Rattle.signed.specs.Parts.{up, dn}
use Rattle.signed.proofs.Signed.{nat_abs-is, one-zero, lt-or-le, to-≤ℤ}
use Rattle.weak_contour.specs.Contour.{at}
use Rattle.weak.specs.Weak.{ends_hold}
use Rattle.path_trip.specs.Path.{Points}
use Rattle.shown_rows.specs.Turns.{most_columns, corner, sides, pixel}
use Rattle.shown_rows.specs.Crossing.{centre}
use Rattle.shown.specs.Shown.{Side, lines_of, black}
use Rattle.shown.specs.Field.{field_half, Reach, InField}
use Rattle.shown.specs.Frames.{place_of, Spans}
use Rattle.shown.specs.Moves.{ShowsNothing}
use Rattle.shown.proofs.Counts.{around-white}
use Rattle.shown.proofs.Limits.{reach-parts}
use Rattle.shown.proofs.White.{place-parts, white-left, white-right, white-below, white-above}

-- points that stand at one place of an axis span from it to it
module _ (m : ℕ) (l : List ℤ) (n : ℕ) (limit : Reach m l) (c : ℤ) (one : (i : ℕ) → i < n → at l i ≡ c) where
  abbrev spot : ℕ
  spot = nat_abs (pos 512 *ℤ (pos m *ℤ c +ℤ pos field_half))

  not_left : (i : ℕ) → i < n → dn (place_of field_half m l i) ≡ 0
  not_left i h =
      let w = place_of field_half m l i in
      omega (arith, place-parts field_half m l i, one-zero w, reach-parts m l limit i)

  at-spot : (i : ℕ) → i < n → spot ≡ up (place_of field_half m l i)
  at-spot i h =
      let e : nat_abs (place_of field_half m l i) ≡ spot = ap (λ (z : ℤ). nat_abs (pos 512 *ℤ (pos m *ℤ z +ℤ pos field_half))) (one i h) in
      omega (arith, e, nat_abs-is (place_of field_half m l i), not_left i h)

  spans-one : Spans field_half m l n spot spot
  spans-one =
      record {
        from = λ i h. to-≤ℤ (pos spot) (place_of field_half m l i) (omega (arith, at-spot i h, not_left i h));
        to = λ i h. to-≤ℤ (place_of field_half m l i) (pos spot) (omega (arith, at-spot i h, not_left i h));
      }

-- lines that make no pixel black
shows_nothing : (ss : List Side) → ((i j : ℕ) → black ss i j ≡ false) → ShowsNothing ss
shows_nothing ss h =
    record {
      white = h;
      blacks = around-white pixel refl (black ss) h most_columns;
      eulers =
          let x = around-white corner refl (black ss) h most_columns in
          let y = around-white pixel refl (black ss) h most_columns in
          let z = around-white sides refl (black ss) h most_columns in
          λ t. pos (x t + y t) -ℤ pos (z t);
    }

module _ (m : ℕ) (o : Points) (n : ℕ) (es : List ℕ) (ends : ends_hold 0 n es ≡ true) (field : InField o m) (c : ℤ) where
  -- all of one x
  pub upright-white : ((i : ℕ) → i < n → at o.xs i ≡ c) → ShowsNothing (lines_of field_half m o 0 es)
  upright-white one =
      let z = spot m o.xs n field.wide c one in
      let s = spans-one m o.xs n field.wide c one in
      shows_nothing _
      (λ i j. ⊎_elim (λ h. white-left field_half m o n es ends z z s i j h) (λ h. white-right field_half m o n es ends z z s i j h) (lt-or-le (centre i) z))

  -- all of one y
  pub level-white : ((i : ℕ) → i < n → at o.ys i ≡ c) → ShowsNothing (lines_of field_half m o 0 es)
  level-white one =
      let z = spot m o.ys n field.high c one in
      let s = spans-one m o.ys n field.high c one in
      shows_nothing _
      (λ i j. ⊎_elim (λ h. white-below field_half m o n es ends z z s i j h) (λ h. white-above field_half m o n es ends z z s i j h) (lt-or-le (centre j) z))
