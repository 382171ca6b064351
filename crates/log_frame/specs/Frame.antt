-- A frame (document 02, #103): 01, the counts of points and contours, for each point its touch mark, original and current, then each contour's last index.
use Rattle.std.specs.Prelude.{Bool, ◌&&◌, List, [], ◌∷◌, ◌++◌, ℕ, zero, suc, ◌+◌, ◌*◌, eqb, length, get_or, ℤ, pos}
use Rattle.words.specs.Word.{firsts}
use Rattle.log_digits.specs.Digits.{all_digits, digits_of, digits_for, byte_at, high_of, low_of, number_at}
use Rattle.log_frame.specs.Limits.{head_size, point_size, frame_size}

-- what a frame holds: the points' originals, currents and touch marks, and the contours' ends
pub record Frame : Type 0 where
  pub originals : List ℤ
  pub currents : List ℤ
  pub marks : List ℕ
  pub ends : List ℕ

abbrev pub frame_of : List ℤ → List ℤ → List ℕ → List ℕ → Frame
frame_of o c t es = record { originals = o; currents = c; marks = t; ends = es }

-- ---- the digits of a frame
-- the first byte of every frame
abbrev pub kind_byte : ℕ
kind_byte = 1

-- the bytes of the point i, by the originals o, the currents c and the marks t of all
unfoldable pub point_bytes : List ℤ → List ℤ → List ℕ → ℕ → List ℕ
point_bytes o c t i =
    get_or t i 0 ∷ high_of (get_or o i (pos 0)) ∷ low_of (get_or o i (pos 0)) ∷ high_of (get_or c i (pos 0)) ∷ low_of (get_or c i (pos 0)) ∷ []

-- those of the first n points, one behind the other
unfoldable pub points_bytes : List ℤ → List ℤ → List ℕ → ℕ → List ℕ
points_bytes o c t zero = []
points_bytes o c t (suc n) = points_bytes o c t n ++ point_bytes o c t n

-- those of the frame
unfoldable pub frame_bytes : Frame → List ℕ
frame_bytes f =
    kind_byte ∷ length f.originals ∷ length f.ends ∷ (points_bytes f.originals f.currents f.marks (length f.originals) ++ f.ends)

-- its digits
unfoldable pub frame_digits : Frame → List ℕ
frame_digits f = digits_of (frame_bytes f)

-- ---- the frame of a line, which is given without its line feed
-- how many points and contours it says that it has
abbrev pub points_in : List ℕ → ℕ
points_in line = byte_at line 1

abbrev pub contours_in : List ℕ → ℕ
contours_in line = byte_at line 2

-- a good line: only digits, exactly as many as its counts ask for, and 01 first
unfoldable pub good_line : List ℕ → Bool
good_line line = all_digits line && (eqb (length line) (digits_for (frame_size (points_in line) (contours_in line))) && eqb (byte_at line 0) kind_byte)

-- the place of the point i among the bytes, and that of the contour end k
abbrev pub point_place : ℕ → ℕ
point_place i = head_size + point_size * i

abbrev pub end_place : List ℕ → ℕ → ℕ
end_place line k = head_size + point_size * points_in line + k

-- the mark, the original and the current of the point i, and the contour end k
abbrev pub mark_in : List ℕ → ℕ → ℕ
mark_in line i = byte_at line (point_place i)

abbrev pub original_in : List ℕ → ℕ → ℤ
original_in line i = number_at line (point_place i + 1)

abbrev pub current_in : List ℕ → ℕ → ℤ
current_in line i = number_at line (point_place i + 3)

abbrev pub end_in : List ℕ → ℕ → ℕ
end_in line k = byte_at line (end_place line k)

-- the frame that a good line holds
unfoldable pub frame_in : List ℕ → Frame
frame_in line = record {
  originals = firsts (original_in line) (points_in line);
  currents = firsts (current_in line) (points_in line);
  marks = firsts (mark_in line) (points_in line);
  ends = firsts (end_in line) (contours_in line);
}
