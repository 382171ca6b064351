-- The tests of writing and reading: each one element at a time, and what a frame that is not refused is.
use mathlib.Core.Path.{◌≡◌, refl, sym, ap, ◌∙◌}
use mathlib.Core.Bool.{Bool, true, false, ◌&&◌}
use mathlib.Core.List.{List, [], ◌∷◌}
use Prim.Native.Nat.{ℕ, zero, suc, ◌+◌, ◌*◌, ◌≤◌, ◌<◌}
use native.Mathlib.Numerals.{add-one}
use native.Mathlib.Omega.{arith}
use borrow.Author.Tests.{leb-true, eqb-true, le-leb, lt-leb, eq-eqb, ne_eqb}
use lib.Dec.{leb, eqb}
use lib.ListN.{length, get_or, drop, drop_of_length-le}
use lib.Seq.{drop-cons}
use lib.IntN.{ℤ, pos, negsuc}
use lib.Signed.{le_z}
use mir.Syntax.{w16}
use mir.Val.{SFits}
use Rattle.signed.proofs.Signed.{signed, fits}
use Rattle.refusals.specs.Refusal.{refusal}
use Rattle.refusals.proofs.Tests.{and_first, and_second, all_hold}
use Rattle.words_shape.specs.Shape.{is_in, short}
use Rattle.log_digits.specs.Digits.{all_digits, digits_for, byte_at}
use Rattle.log_digits.proofs.Lines.{byte_small}
use Rattle.log_frame.specs.Limits.{most_counted, head_size, frame_size, most_digits}
use Rattle.log_frame.specs.Frame.{Frame, good_line, points_in, contours_in, kind_byte}
use Rattle.log_frame.specs.Write.{room_for, ends_fit, numbers_fit, write_tests}
use Rattle.log_frame.specs.Read.{is_room, are_rooms, read_tests}
use Rattle.log_frame.specs.Steps.{EndsFit, Writable}

-- ---- the counts and the room
module _ (n k places : ℕ) where
  pub room-points : most_counted < n → false ≡ room_for n k places
  unfolding room_for
  room-points h = rw (lt-leb n most_counted h)

  module _ (few : n ≤ most_counted) where
    pub room-contours : most_counted < k → false ≡ room_for n k places
    unfolding room_for
    room-contours h = rw (le-leb n most_counted few, lt-leb k most_counted h)

    pub room-digits : k ≤ most_counted → (size : ℕ) → size ≡ frame_size n k → leb (2 * size) places ≡ room_for n k places
    unfolding room_for
    room-digits h size e = rw (le-leb n most_counted few, le-leb k most_counted h, e)

-- ---- the contour ends, from the end i on
module _ (es : List ℕ) (i : ℕ) where
  pub ends-stop : i < length es → most_counted < get_or es i 0 → ends_fit (drop i es) ≡ false
  unfolding ends_fit
  ends-stop h l = rw (drop-cons es i 0 h, lt-leb (get_or es i 0) most_counted l)

  pub ends_on : i < length es → get_or es i 0 ≤ most_counted → ends_fit (drop i es) ≡ ends_fit (drop (i + 1) es)
  unfolding ends_fit
  ends_on h l = rw (drop-cons es i 0 h, le-leb (get_or es i 0) most_counted l, add-one)

  pub ends-end : length es ≤ i → ends_fit (drop i es) ≡ true
  unfolding ends_fit
  ends-end h = rw (drop_of_length-le es h)

-- each of those that pass is one byte, and back
pub ends-are : (es : List ℕ) → ends_fit es ≡ true → EndsFit es
unfolding ends_fit
ends-are [] e i = omega arith
ends-are (x ∷ es) e zero = leb-true x most_counted (and_first (leb x most_counted) (ends_fit es) e)
ends-are (x ∷ es) e (suc i) = ends-are es (and_second (leb x most_counted) (ends_fit es) e) i

pub ends-pass : (es : List ℕ) → ((i : ℕ) → i < length es → get_or es i 0 ≤ most_counted) → ends_fit es ≡ true
unfolding ends_fit
ends-pass [] h = refl
ends-pass (x ∷ es) h = rw (le-leb x most_counted (h 0 (omega arith))) (ends-pass es (λ i k. h (suc i) (omega arith)))

-- ---- the numbers, from the number i on
module _ (l : List ℤ) (i : ℕ) where
  pub numbers-stop : i < length l → is_in short (get_or l i (pos 0)) ≡ false → numbers_fit (drop i l) ≡ false
  unfolding numbers_fit
  numbers-stop h e = rw (drop-cons l i (pos 0) h, e)

  pub numbers_on : i < length l → is_in short (get_or l i (pos 0)) ≡ true → numbers_fit (drop i l) ≡ numbers_fit (drop (i + 1) l)
  unfolding numbers_fit
  numbers_on h e = rw (drop-cons l i (pos 0) h, e, add-one)

  pub numbers-end : length l ≤ i → numbers_fit (drop i l) ≡ true
  unfolding numbers_fit
  numbers-end h = rw (drop_of_length-le l h)

-- a number that passes fits two signed bytes
short-fits : (z : ℤ) → is_in short z ≡ true → SFits w16 z
short-fits z e =
    let low : le_z (negsuc 32767) z ≡ true = and_first _ _ e in
    let high : le_z z (pos 32767) ≡ true = and_second (le_z (negsuc 32767) z) _ e in
    fits (omega (arith, signed))

pub numbers-are : (l : List ℤ) → numbers_fit l ≡ true → (i : ℕ) → SFits w16 (get_or l i (pos 0))
unfolding numbers_fit
numbers-are [] e i = fits (omega (arith, signed))
numbers-are (z ∷ l) e zero = short-fits z (and_first (is_in short z) (numbers_fit l) e)
numbers-are (z ∷ l) e (suc i) = numbers-are l (and_second (is_in short z) (numbers_fit l) e) i

pub numbers-pass : (l : List ℤ) → ((i : ℕ) → i < length l → is_in short (get_or l i (pos 0)) ≡ true) → numbers_fit l ≡ true
unfolding numbers_fit
numbers-pass [] h = refl
numbers-pass (z ∷ l) h = rw (h 0 (omega arith)) (numbers-pass l (λ i k. h (suc i) (omega arith)))

-- ---- a frame that is not refused
pub writable : (f : Frame) (line : List ℕ) → refusal (write_tests f line) ≡ 0 → Writable f (length line)
unfolding room_for
writable f line e =
    let h = all_hold (write_tests f line) refl e in
    let n = length f.originals in
    let k = length f.ends in
    let counted = h.1.1.0 in
    let rest = and_second (leb n most_counted) (leb k most_counted && leb (digits_for (frame_size n k)) (length line)) counted in
    let room = leb-true (digits_for (frame_size n k)) (length line) (and_second (leb k most_counted) (leb (digits_for (frame_size n k)) (length line)) rest) in
    record {
      points = record {
        currents_length = eqb-true _ _ h.0;
        marks_length = eqb-true _ _ h.1.0;
        room = omega arith;
        originals = numbers-are f.originals h.1.1.1.1.0;
        currents = numbers-are f.currents h.1.1.1.1.1.0;
      };
      few-points = leb-true n most_counted (and_first (leb n most_counted) (leb k most_counted && leb (digits_for (frame_size n k)) (length line)) counted);
      few_contours = leb-true k most_counted (and_first (leb k most_counted) (leb (digits_for (frame_size n k)) (length line)) rest);
      room = room;
      ends = ends-are f.ends h.1.1.1.0;
    }

-- ---- a line and rooms that are not refused
pub record Readable (line : List ℕ) (rooms : Frame) : Type 0 where
  pub good : good_line line ≡ true
  pub originals : length rooms.originals ≡ most_counted
  pub currents : length rooms.currents ≡ most_counted
  pub marks : length rooms.marks ≡ most_counted
  pub ends : length rooms.ends ≡ most_counted

pub readable : (line : List ℕ) (rooms : Frame) → refusal (read_tests line rooms) ≡ 0 → Readable line rooms
unfolding are_rooms
readable line rooms e =
    let h = all_hold (read_tests line rooms) refl e in
    let rest = and_second (is_room (length rooms.originals)) _ h.0 in
    let last = and_second (is_room (length rooms.currents)) _ rest in
    record {
      good = h.1.0;
      originals = eqb-true _ _ (and_first (is_room (length rooms.originals)) _ h.0);
      currents = eqb-true _ _ (and_first (is_room (length rooms.currents)) _ rest);
      marks = eqb-true _ _ (and_first (is_room (length rooms.marks)) (is_room (length rooms.ends)) last);
      ends = eqb-true _ _ (and_second (is_room (length rooms.marks)) (is_room (length rooms.ends)) last);
    }

-- ---- a line, as the code tests it
module _ (line : List ℕ) where
  -- what fails at its end
  never : (a b : Bool) → b ≡ false → false ≡ (a && b)
  never true b e = sym e
  never false b e = refl

  pub good-short : length line < 2 * head_size → false ≡ good_line line
  unfolding good_line
  good-short h = never (all_digits line) _ (rw (ne_eqb (length line) (digits_for (frame_size (points_in line) (contours_in line))) (λ e. omega arith)))

  module _ (size : ℕ) (sized : size ≡ frame_size (points_in line) (contours_in line)) where
    pub good-size : (length line ≡ 2 * size → ⊥) → false ≡ good_line line
    unfolding good_line
    good-size h =
        never (all_digits line) _ (rw (ne_eqb (length line) (digits_for (frame_size (points_in line) (contours_in line)))
        (λ e. h (e ∙ ap (λ (s : ℕ). 2 * s) (sym sized)))))

    module _ (long : length line ≡ 2 * size) where
      long-is : eqb (length line) (digits_for (frame_size (points_in line) (contours_in line))) ≡ true
      long-is = eq-eqb _ _ (long ∙ ap (λ (s : ℕ). 2 * s) sized)

      pub good-kind : (kind : ℕ) → kind ≡ byte_at line 0 → (kind ≡ kind_byte → ⊥) → false ≡ good_line line
      unfolding good_line
      good-kind kind e h = never (all_digits line) _ (rw (long-is, ne_eqb (byte_at line 0) kind_byte (λ q. h (e ∙ q))))

      pub good-digits : (kind : ℕ) (digits : Bool) → kind ≡ byte_at line 0 → kind ≡ kind_byte → digits ≡ all_digits line → digits ≡ good_line line
      unfolding good_line
      good-digits kind digits e q d = d ∙ rw (long-is, eq-eqb (byte_at line 0) kind_byte (sym e ∙ q)) (sym (and-true (all_digits line)))
        where
          and-true : (a : Bool) → (a && true) ≡ a
          and-true true = refl
          and-true false = refl

  -- a good line has its size, and so room for its head
  pub good_length : good_line line ≡ true → length line ≡ digits_for (frame_size (points_in line) (contours_in line))
  unfolding good_line
  good_length e = eqb-true _ _ (and_first _ (eqb (byte_at line 0) kind_byte) (and_second (all_digits line) _ e))

  -- its counts are those of a byte
  pub few-points-in : points_in line ≤ most_counted
  few-points-in = omega (arith, byte_small line 1)

  pub few-contours-in : contours_in line ≤ most_counted
  few-contours-in = omega (arith, byte_small line 2)

  -- so it is at most as long as the longest
  pub good-most : good_line line ≡ true → length line ≤ most_digits
  good-most e = omega (arith, good_length e, few-points-in, few-contours-in)
