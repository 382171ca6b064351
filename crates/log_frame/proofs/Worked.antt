-- Values of the definitions, worked out by hand from document 02's #103: its own example, the shortest frames, and lines that are none.
use mathlib.Core.Path.{◌≡◌, refl}
use mathlib.Core.Bool.{true, false}
use mathlib.Core.List.{List, [], ◌∷◌}
use Prim.Native.Nat.{ℕ}
use lib.IntN.{pos, negsuc}
use Rattle.refusals.specs.Refusal.{refusal}
use Rattle.words.specs.Word.{firsts}
use Rattle.log_digits.specs.Digits.{digit_of, is_digit, all_digits, value_of, digits_of, byte_at, high_of, low_of, number_of}
use Rattle.log_frame.specs.Limits.{most_digits}
use Rattle.log_frame.specs.Frame.{Frame, frame_of, point_bytes, points_bytes, frame_bytes, frame_digits, good_line, frame_in}
use Rattle.log_frame.specs.Write.{write_tests, room_for, ends_fit, numbers_fit}

-- the longest line has 3,066 digits
pub longest : most_digits ≡ 3066
longest = refl

-- document 02's example: 010301, then 01 0000 0005, 00 000A 0063, 00 0014 0014, then 02
abbrev example : List ℕ
example =
    48 ∷ 49 ∷ 48 ∷ 51 ∷ 48 ∷ 49
    ∷ 48 ∷ 49 ∷ 48 ∷ 48 ∷ 48 ∷ 48 ∷ 48 ∷ 48 ∷ 48 ∷ 53
    ∷ 48 ∷ 48 ∷ 48 ∷ 48 ∷ 48 ∷ 65 ∷ 48 ∷ 48 ∷ 54 ∷ 51
    ∷ 48 ∷ 48 ∷ 48 ∷ 48 ∷ 49 ∷ 52 ∷ 48 ∷ 48 ∷ 49 ∷ 52
    ∷ 48 ∷ 50 ∷ []

-- it is a good line
pub example-good : good_line example ≡ true
unfolding good_line all_digits is_digit byte_at value_of
example-good = refl

-- which holds three points, the first of them touched, on one contour
abbrev job : Frame
job = frame_of (pos 0 ∷ pos 10 ∷ pos 20 ∷ []) (pos 5 ∷ pos 99 ∷ pos 20 ∷ []) (1 ∷ 0 ∷ 0 ∷ []) (2 ∷ [])

pub example-holds : frame_in example ≡ job
unfolding frame_in firsts byte_at value_of number_of
example-holds = refl

-- and whose digits it is
pub job-digits : frame_digits job ≡ example
unfolding frame_digits frame_bytes points_bytes point_bytes digits_of digit_of high_of low_of
job-digits = refl

-- numbers below zero, and a mark that is kept as it is: FF FFFB 8000
pub below-zero : frame_digits (frame_of (negsuc 4 ∷ []) (negsuc 32767 ∷ []) (255 ∷ []) [])
    ≡ 48 ∷ 49 ∷ 48 ∷ 49 ∷ 48 ∷ 48 ∷ 70 ∷ 70 ∷ 70 ∷ 70 ∷ 70 ∷ 66 ∷ 56 ∷ 48 ∷ 48 ∷ 48 ∷ []
unfolding frame_digits frame_bytes points_bytes point_bytes digits_of digit_of high_of low_of
below-zero = refl

-- 01000100: no point, and a contour that ends at point 0, is a frame
pub lone-contour : good_line (48 ∷ 49 ∷ 48 ∷ 48 ∷ 48 ∷ 49 ∷ 48 ∷ 48 ∷ []) ≡ true
unfolding good_line all_digits is_digit byte_at value_of
lone-contour = refl

-- the empty line, 0100 and 020000 are none, nor is 010000 with a digit more, a carriage return, or in lower case 01000a
pub no_frames :
    (good_line [] ≡ false) × ((good_line (48 ∷ 49 ∷ 48 ∷ 48 ∷ []) ≡ false)
    × ((good_line (48 ∷ 50 ∷ 48 ∷ 48 ∷ 48 ∷ 48 ∷ []) ≡ false) × ((good_line (48 ∷ 49 ∷ 48 ∷ 48 ∷ 48 ∷ 48 ∷ 48 ∷ []) ≡ false)
    × ((good_line (48 ∷ 49 ∷ 48 ∷ 48 ∷ 48 ∷ 48 ∷ 13 ∷ []) ≡ false) × (good_line (48 ∷ 49 ∷ 48 ∷ 48 ∷ 48 ∷ 97 ∷ []) ≡ false)))))
unfolding good_line all_digits is_digit byte_at value_of
no_frames = (refl, (refl, (refl, (refl, (refl, refl)))))

-- the refusals of writing, each in front of those behind it: a line too short, an end of 256, a number of 32,768
abbrev refused : Frame → List ℕ → ℕ
refused f line = refusal (write_tests f line)

pub order :
    (refused (frame_of (pos 32768 ∷ []) (pos 0 ∷ []) (0 ∷ []) (256 ∷ [])) (0 ∷ []) ≡ 1)
    × ((refused (frame_of [] [] [] (256 ∷ [])) (0 ∷ 0 ∷ 0 ∷ 0 ∷ 0 ∷ 0 ∷ 0 ∷ 0 ∷ []) ≡ 3)
    × ((refused (frame_of (pos 32768 ∷ []) (pos 0 ∷ []) (0 ∷ []) []) example ≡ 4)
    × (refused (frame_of (negsuc 32767 ∷ []) (pos 32767 ∷ []) (255 ∷ []) (255 ∷ [])) example ≡ 0)))
unfolding refusal room_for ends_fit numbers_fit
order = (refl, (refl, (refl, refl)))
