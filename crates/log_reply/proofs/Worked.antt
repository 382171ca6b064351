-- Replies worked out by hand, document 02's example among them. A line is the list of its characters' codes.
use mathlib.Core.Path.{◌≡◌, refl}
use mathlib.Core.Bool.{true, false}
use mathlib.Core.List.{[], ◌∷◌}
use Rattle.refusals.specs.Refusal.{refusal}
use Rattle.words.specs.Word.{firsts}
use Rattle.weak_contour.specs.Contour.{
  first_touched,
  last_touched,
  touched_before,
  touched_behind,
  references,
  first_of,
  second_of,
  shifted_at,
  followed,
  weak_at,
  steep_between,
  steep_by,
  steep_followed,
  steep_at,
}
use Rattle.weak.specs.Weak.{ends_hold, coordinate_holds, coordinates_hold, contour_of, steep_on, gentle_from, gentle, on_contour, aligned_at, list_of, result}
use Rattle.log_digits.specs.Digits.{digit_of, is_digit, all_digits, value_of, digits_of, byte_at, number_of}
use Rattle.log_frame.specs.Frame.{good_line, frame_in}
use Rattle.log_text.specs.Answer.{result_bytes, results_bytes, done_bytes, job_bytes}
use Rattle.log_reply.specs.Reply.{line_bytes, reply}

-- document 02's example: 0103010100000005 00000A0063 000014001402 gives 810300000500000F000019
example : reply (48 ∷ 49 ∷ 48 ∷ 51 ∷ 48 ∷ 49 ∷ 48 ∷ 49 ∷ 48 ∷ 48 ∷ 48 ∷ 48 ∷ 48 ∷ 48 ∷ 48 ∷ 53 ∷ 48 ∷ 48 ∷ 48 ∷ 48 ∷ 48 ∷ 65 ∷ 48 ∷ 48 ∷ 54 ∷ 51 ∷ 48 ∷ 48
    ∷ 48 ∷ 48 ∷ 49 ∷ 52 ∷ 48 ∷ 48 ∷ 49 ∷ 52 ∷ 48 ∷ 50 ∷ []) true ≡ 56 ∷ 49 ∷ 48 ∷ 51 ∷ 48 ∷ 48 ∷ 48 ∷ 48 ∷ 48 ∷ 53 ∷ 48 ∷ 48 ∷ 48 ∷ 48 ∷ 48 ∷ 70 ∷ 48 ∷ 48
    ∷ 48 ∷ 48 ∷ 49 ∷ 57 ∷ 10 ∷ []
unfolding
    reply line_bytes good_line all_digits is_digit byte_at value_of frame_in firsts number_of digits_of digit_of job_bytes refusal ends_hold coordinates_hold
    coordinate_holds result list_of aligned_at on_contour contour_of weak_at followed references touched_before touched_behind first_touched last_touched shifted_at
    gentle gentle_from steep_on steep_at steep_followed steep_by steep_between first_of second_of done_bytes results_bytes result_bytes
example = refl

-- the same without its line feed gives 8206
cut : reply (48 ∷ 49 ∷ 48 ∷ 51 ∷ 48 ∷ 49 ∷ 48 ∷ 49 ∷ 48 ∷ 48 ∷ 48 ∷ 48 ∷ 48 ∷ 48 ∷ 48 ∷ 53 ∷ 48 ∷ 48 ∷ 48 ∷ 48 ∷ 48 ∷ 65 ∷ 48 ∷ 48 ∷ 54 ∷ 51 ∷ 48 ∷ 48 ∷ 48
    ∷ 48 ∷ 49 ∷ 52 ∷ 48 ∷ 48 ∷ 49 ∷ 52 ∷ 48 ∷ 50 ∷ []) false ≡ 56 ∷ 50 ∷ 48 ∷ 54 ∷ 10 ∷ []
unfolding
    reply line_bytes good_line all_digits is_digit byte_at value_of frame_in firsts number_of digits_of digit_of job_bytes refusal ends_hold coordinates_hold
    coordinate_holds result list_of aligned_at on_contour contour_of weak_at followed references touched_before touched_behind first_touched last_touched shifted_at
    gentle gentle_from steep_on steep_at steep_followed steep_by steep_between first_of second_of done_bytes results_bytes result_bytes
cut = refl

-- a current of -5, FFFB, stays, as FFFFFB
below : reply (48 ∷ 49 ∷ 48 ∷ 49 ∷ 48 ∷ 49 ∷ 48 ∷ 49 ∷ 48 ∷ 48 ∷ 48 ∷ 48 ∷ 70 ∷ 70 ∷ 70 ∷ 66 ∷ 48 ∷ 48 ∷ []) true
    ≡ 56 ∷ 49 ∷ 48 ∷ 49 ∷ 70 ∷ 70 ∷ 70 ∷ 70 ∷ 70 ∷ 66 ∷ 10 ∷ []
unfolding
    reply line_bytes good_line all_digits is_digit byte_at value_of frame_in firsts number_of digits_of digit_of job_bytes refusal ends_hold coordinates_hold
    coordinate_holds result list_of aligned_at on_contour contour_of weak_at followed references touched_before touched_behind first_touched last_touched shifted_at
    gentle gentle_from steep_on steep_at steep_followed steep_by steep_between first_of second_of done_bytes results_bytes result_bytes
below = refl

-- an empty line gives 8206
empty : reply [] true ≡ 56 ∷ 50 ∷ 48 ∷ 54 ∷ 10 ∷ []
unfolding
    reply line_bytes good_line all_digits is_digit byte_at value_of frame_in firsts number_of digits_of digit_of job_bytes refusal ends_hold coordinates_hold
    coordinate_holds result list_of aligned_at on_contour contour_of weak_at followed references touched_before touched_behind first_touched last_touched shifted_at
    gentle gentle_from steep_on steep_at steep_followed steep_by steep_between first_of second_of done_bytes results_bytes result_bytes
empty = refl

-- a frame with no point and no contour gives 8100, and with a carriage return behind it 8206
none : reply (48 ∷ 49 ∷ 48 ∷ 48 ∷ 48 ∷ 48 ∷ []) true ≡ 56 ∷ 49 ∷ 48 ∷ 48 ∷ 10 ∷ []
unfolding
    reply line_bytes good_line all_digits is_digit byte_at value_of frame_in firsts number_of digits_of digit_of job_bytes refusal ends_hold coordinates_hold
    coordinate_holds result list_of aligned_at on_contour contour_of weak_at followed references touched_before touched_behind first_touched last_touched shifted_at
    gentle gentle_from steep_on steep_at steep_followed steep_by steep_between first_of second_of done_bytes results_bytes result_bytes
none = refl

behind : reply (48 ∷ 49 ∷ 48 ∷ 48 ∷ 48 ∷ 48 ∷ 13 ∷ []) true ≡ 56 ∷ 50 ∷ 48 ∷ 54 ∷ 10 ∷ []
unfolding
    reply line_bytes good_line all_digits is_digit byte_at value_of frame_in firsts number_of digits_of digit_of job_bytes refusal ends_hold coordinates_hold
    coordinate_holds result list_of aligned_at on_contour contour_of weak_at followed references touched_before touched_behind first_touched last_touched shifted_at
    gentle gentle_from steep_on steep_at steep_followed steep_by steep_between first_of second_of done_bytes results_bytes result_bytes
behind = refl

-- a contour without a point is a frame, and refused by 3
ends : reply (48 ∷ 49 ∷ 48 ∷ 48 ∷ 48 ∷ 49 ∷ 48 ∷ 48 ∷ []) true ≡ 56 ∷ 50 ∷ 48 ∷ 51 ∷ 10 ∷ []
unfolding
    reply line_bytes good_line all_digits is_digit byte_at value_of frame_in firsts number_of digits_of digit_of job_bytes refusal ends_hold coordinates_hold
    coordinate_holds result list_of aligned_at on_contour contour_of weak_at followed references touched_before touched_behind first_touched last_touched shifted_at
    gentle gentle_from steep_on steep_at steep_followed steep_by steep_between first_of second_of done_bytes results_bytes result_bytes
ends = refl
