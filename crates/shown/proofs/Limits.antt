-- Within the limits no pixel outside the field is black, and both numbers are small: at most 4,194,304 black pixels, and an Euler number of at most 4,198,401
-- either way. Assumes nothing.
use mathlib.Core.Path.{◌≡◌, ap}
use mathlib.Core.Logic.{◌⊎◌, inl, inr, ⊎_elim}
use mathlib.Core.Bool.{Bool, true, false}
use mathlib.Core.List.{List}
use Prim.Native.Nat.{ℕ, zero, suc, ◌+◌, ◌*◌, ◌≤◌}
use native.Mathlib.Omega.{arith}
use lib.IntN.{ℤ, pos, nat_abs, ◌-ℤ◌}
use Rattle.signed.specs.Parts.{up, dn}
use Rattle.signed.proofs.Signed.{nat_abs-is, one-zero, sub-law, to-≤ℤ}
use Rattle.weak_contour.specs.Contour.{at}
use Rattle.weak_contour.specs.Limits.{most_coordinate}
use Rattle.weak.specs.Weak.{ends_hold}
use Rattle.path_trip.specs.Path.{Points}
use Rattle.shown_rows.specs.Turns.{most_columns, bit, outer, inner, total}
use Rattle.shown_rows.proofs.Euler.{total-few, pixel-one, outer_one, inner-one}
use Rattle.shown.specs.Shown.{lines_of, black, around, black_count, euler}
use Rattle.shown.specs.Field.{field_half, Reach, InField}
use Rattle.shown.specs.Frames.{place_of, Spans}
use Rattle.shown.proofs.Counts.{total-none, euler-turns}
use Rattle.shown.proofs.White.{place-parts, white-right, white-above}

-- a coordinate's parts, magnified
pub reach-parts : (m : ℕ) (l : List ℤ) → Reach m l → (i : ℕ) → m * up (at l i) + m * dn (at l i) ≤ most_coordinate
reach-parts m l h i = omega (arith, h i, ap (λ (z : ℕ). m * z) (nat_abs-is (at l i)))

-- the field's points stand between its sides
field-spans : (m : ℕ) (l : List ℤ) → Reach m l → (n : ℕ) → Spans field_half m l n 0 67108864
field-spans m l h n =
    record {
      from = λ i _. to-≤ℤ _ (place_of field_half m l i) (omega (arith, place-parts field_half m l i, reach-parts m l h i));
      to = λ i _. to-≤ℤ (place_of field_half m l i) _ (omega (arith, place-parts field_half m l i, reach-parts m l h i));
    }

-- ---- totals
-- of numbers of at most k
pub total-most : (f : ℕ → ℕ) (k : ℕ) → ((i : ℕ) → f i ≤ k) → (n : ℕ) → total f n ≤ n * k
unfolding total
total-most f k h zero = omega arith
total-most f k h (suc n) = omega (arith, total-most f k h n, h n)

-- of which the last is 0
total-last : (f : ℕ → ℕ) (k : ℕ) → ((i : ℕ) → f i ≤ k) → (n : ℕ) → f n ≡ 0 → total f (suc n) ≤ n * k
unfolding total
total-last f k h n e = omega (arith, total-most f k h n)

-- a number of at most 1 for each of n times n corners
around-most : (f : Bool → Bool → Bool → Bool → ℕ) → ((a b c d : Bool) → f a b c d ≤ 1) → (b : ℕ → ℕ → Bool) (n : ℕ) → around f b n ≤ n * n
unfolding around
around-most f h b n = total-most _ n (λ j. total-few _ (λ i. h _ _ _ _) n) n

-- ---- black pixels
blacks-in : (b : ℕ → ℕ → Bool) (n : ℕ) → ((j : ℕ) → b n j ≡ false) → ((i : ℕ) → b i n ≡ false) → black_count b (suc n) ≤ n * n
unfolding around
blacks-in b n p q =
    let row : (j : ℕ) → total (λ i. bit (b i j)) (suc n) ≤ n = λ j. omega (arith, total-last (λ i. bit (b i j)) 1 (λ i. pixel-one (b i j)) n (ap bit (p j))) in
    total-last _ n row n (total-none _ (suc n) (λ i _. ap bit (q i)))

difference-most : (x y k : ℕ) → x ≤ k → y ≤ k → nat_abs (pos x -ℤ pos y) ≤ k
difference-most x y k p q = omega (arith, nat_abs-is (pos x -ℤ pos y), one-zero (pos x -ℤ pos y), sub-law (pos x) (pos y))

-- the Euler number of every picture
pub euler-most : (b : ℕ → ℕ → Bool) (n : ℕ) → nat_abs (euler b n) ≤ n * n
euler-most b n =
    omega (
      arith,
      ap nat_abs (euler-turns b n),
      difference-most _ _ _ (around-most outer outer_one b n) (around-most (λ _. inner) (λ _. inner-one) b n),
    )

module _ (m : ℕ) (o : Points) (n : ℕ) (es : List ℕ) (ends : ends_hold 0 n es ≡ true) (field : InField o m) where
  -- no pixel is black from column 2,048 on, nor from row 2,048 on
  pub field-white : (i j : ℕ) → (2048 ≤ i) ⊎ (2048 ≤ j) → black (lines_of field_half m o 0 es) i j ≡ false
  field-white i j h =
      ⊎_elim (λ k. white-right field_half m o n es ends 0 67108864 (field-spans m o.xs field.wide n) i j (omega arith))
      (λ k. white-above field_half m o n es ends 0 67108864 (field-spans m o.ys field.high n) i j (omega arith))
      h

  -- so the field's pixels are all that can be
  pub blacks-most : black_count (black (lines_of field_half m o 0 es)) most_columns ≤ 4194304
  blacks-most = blacks-in (black (lines_of field_half m o 0 es)) 2048 (λ j. field-white 2048 j (inl (omega arith))) (λ i. field-white i 2048 (inr (omega arith)))
