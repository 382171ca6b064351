-- The job of a frame is done, or refused by 3 for a contour end: its numbers have two signed bytes, so that none is out of range and no point is too steep.
use mathlib.Core.Path.{◌≡◌, refl, sym, ap, ◌∙◌}
use mathlib.Core.Bool.{Bool, true, false, cond}
use mathlib.Core.List.{List, [], ◌∷◌, ◌++◌}
use mathlib.Core.Logic.{◌⊎◌, inl, inr}
use Prim.Native.Nat.{ℕ, zero, suc, ◌+◌, ◌*◌, ◌≤◌, ◌<◌}
use native.Mathlib.Decide.{dec_lt}
use native.Mathlib.Omega.{arith}
use borrow.Author.Tests.{le-leb, eq-eqb, not-false}
use lib.ListN.{length}
use lib.IntN.{ℤ, pos, nat_abs, ◌-ℤ◌}
use mir.Syntax.{w16}
use mir.Val.{to_z}
use Rattle.signed.specs.Range.{Between}
use Rattle.signed.proofs.Signed.{nat_abs-is, one-zero, sub-law}
use Rattle.signed.proofs.Bits.{read_low, read-high}
use Rattle.refusals.specs.Refusal.{refusal, bad_index}
use Rattle.words.specs.Word.{firsts}
use Rattle.words.proofs.Tables.{firsts-length}
use Rattle.weak_contour.specs.Limits.{most_points, most_coordinate}
use Rattle.weak_contour.specs.Contour.{at}
use Rattle.weak.specs.Weak.{ends_hold, coordinate_holds, coordinates_hold, gentle, weak_tests}
use Rattle.weak.proofs.Steepness.{calm-gentle}
use Rattle.log_digits.specs.Digits.{number_of}
use Rattle.log_digits.proofs.Lines.{byte_small}
use Rattle.log_frame.specs.Frame.{frame_in, points_in, original_in, current_in, mark_in}

-- ---- one number
-- what two signed bytes hold
abbrev TwoBytes : ℤ → Type 0
TwoBytes = Between 32768 32767

number_small : (h l : ℕ) → h < 256 → l < 256 → TwoBytes (number_of h l)
unfolding number_of
number_small h l a b = by (dec_lt (256 * h + l) 32768)
  where
    by : Dec (256 * h + l < 32768) → TwoBytes (to_z w16 (256 * h + l))
    by (yes g) = rw (read_low w16 (256 * h + l) g) (omega arith)
    by (no g) = rw (read-high w16 (256 * h + l) (omega arith)) (omega arith)

-- ---- a list of them
-- what holds of 0, of each number of a list and of one behind it holds at every place
at-behind : (P : ℤ → Type 0) (xs : List ℤ) (x : ℤ) → P (pos 0) → ((j : ℕ) → P (at xs j)) → P x → (i : ℕ) → P (at (xs ++ x ∷ []) i)
at-behind P [] x z h g zero = g
at-behind P [] x z h g (suc i) = z
at-behind P (y ∷ xs) x z h g zero = h 0
at-behind P (y ∷ xs) x z h g (suc i) = at-behind P xs x z (λ j. h (suc j)) g i

at-firsts : (P : ℤ → Type 0) (f : ℕ → ℤ) (n : ℕ) → P (pos 0) → ((i : ℕ) → P (f i)) → (i : ℕ) → P (at (firsts f n) i)
unfolding firsts
at-firsts P f zero z h i = z
at-firsts P f (suc n) z h i = at-behind P (firsts f n) (f n) z (at-firsts P f n z h) (h n) i

-- numbers that are each within a limit hold
all_hold : (m : ℕ) (l : List ℤ) → ((i : ℕ) → nat_abs (at l i) ≤ m) → coordinates_hold m l ≡ true
unfolding coordinates_hold coordinate_holds
all_hold m [] h = refl
all_hold m (z ∷ l) h = rw (le-leb (nat_abs z) m (h 0), all_hold m l (λ i. h (suc i)))

-- ---- the job of a line
module _ (line : List ℕ) where
  originals-small : (i : ℕ) → TwoBytes (at (frame_in line).originals i)
  unfolding frame_in
  originals-small = at-firsts TwoBytes (original_in line) (points_in line) (omega arith) (λ i. number_small _ _ (byte_small line _) (byte_small line _))

  currents-small : (i : ℕ) → TwoBytes (at (frame_in line).currents i)
  unfolding frame_in
  currents-small = at-firsts TwoBytes (current_in line) (points_in line) (omega arith) (λ i. number_small _ _ (byte_small line _) (byte_small line _))

  gentle-frame : gentle (frame_in line).originals (frame_in line).currents (frame_in line).marks (frame_in line).ends ≡ true
  gentle-frame =
      not-false _
      (sym
      (calm-gentle (frame_in line).originals (frame_in line).currents (frame_in line).marks (frame_in line).ends (λ i. omega (arith, originals-small i))
      (λ i j.
      let a = at (frame_in line).currents i in
      let b = at (frame_in line).currents j in
      omega (arith, currents-small i, currents-small j, nat_abs-is (b -ℤ a), one-zero (b -ℤ a), sub-law b a))))

  few : length (frame_in line).originals ≤ most_points
  unfolding frame_in
  few = omega (arith, firsts-length (original_in line) (points_in line), byte_small line 1)

  as_many : length (frame_in line).currents ≡ length (frame_in line).originals
  unfolding frame_in
  as_many = firsts-length (current_in line) (points_in line) ∙ sym (firsts-length (original_in line) (points_in line))

  as-marks : length (frame_in line).marks ≡ length (frame_in line).originals
  unfolding frame_in
  as-marks = firsts-length (mark_in line) (points_in line) ∙ sym (firsts-length (original_in line) (points_in line))

  -- by its contour ends alone
  pub frame_refused : refusal (weak_tests (frame_in line).originals (frame_in line).currents (frame_in line).marks (frame_in line).ends)
      ≡ cond (ends_hold 0 (length (frame_in line).originals) (frame_in line).ends) 0 bad_index
  unfolding refusal
  frame_refused =
      rw (
        le-leb (length (frame_in line).originals) most_points few,
        eq-eqb (length (frame_in line).currents) (length (frame_in line).originals) as_many,
        eq-eqb (length (frame_in line).marks) (length (frame_in line).originals) as-marks,
        all_hold most_coordinate (frame_in line).originals
            (λ i. omega (arith, originals-small i, nat_abs-is (at (frame_in line).originals i), one-zero (at (frame_in line).originals i))),
        all_hold most_coordinate (frame_in line).currents
            (λ i. omega (arith, currents-small i, nat_abs-is (at (frame_in line).currents i), one-zero (at (frame_in line).currents i))),
        gentle-frame,
      )

  -- so by 3 or not at all
  pub frame-answers : (refusal (weak_tests (frame_in line).originals (frame_in line).currents (frame_in line).marks (frame_in line).ends) ≡ 0)
      ⊎ (refusal (weak_tests (frame_in line).originals (frame_in line).currents (frame_in line).marks (frame_in line).ends) ≡ bad_index)
  frame-answers = by (ends_hold 0 (length (frame_in line).originals) (frame_in line).ends) refl
    where
      by : (b : Bool) → ends_hold 0 (length (frame_in line).originals) (frame_in line).ends ≡ b
          → (refusal (weak_tests (frame_in line).originals (frame_in line).currents (frame_in line).marks (frame_in line).ends) ≡ 0)
          ⊎ (refusal (weak_tests (frame_in line).originals (frame_in line).currents (frame_in line).marks (frame_in line).ends) ≡ bad_index)
      by true e = inl (frame_refused ∙ ap (λ (x : Bool). cond x 0 bad_index) e)
      by false e = inr (frame_refused ∙ ap (λ (x : Bool). cond x 0 bad_index) e)
