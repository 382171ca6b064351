-- Writing a frame: its refusals, 1, 3 and 4 of document 02's #103 in this order and no others, and what it leaves in the lent line.
use Rattle.std.specs.Prelude.{◌≡◌, Bool, true, ◌&&◌, List, [], ◌∷◌, ◌++◌, ℕ, leb, eqb, length, drop, ℤ}
use Rattle.refusals.specs.Refusal.{Test, ◌unless◌, refusal, answered, too_long, bad_index, out_of_range}
use Rattle.words_shape.specs.Shape.{is_in, short}
use Rattle.log_digits.specs.Digits.{Bytes, digits_for}
use Rattle.log_frame.specs.Limits.{most_counted, frame_size}
use Rattle.log_frame.specs.Frame.{Frame, frame_digits}
use Rattle.log_frame.specs.Answer.{Written}

-- ---- the refusals
-- one byte counts the points and the contours, and the line has a place for each digit
unfoldable pub room_for : ℕ → ℕ → ℕ → Bool
room_for n k room = leb n most_counted && (leb k most_counted && leb (digits_for (frame_size n k)) room)

-- each contour end is one byte
unfoldable pub ends_fit : List ℕ → Bool
ends_fit [] = true
ends_fit (e ∷ es) = leb e most_counted && ends_fit es

-- two signed bytes hold each number of a list
unfoldable pub numbers_fit : List ℤ → Bool
numbers_fit [] = true
numbers_fit (z ∷ zs) = is_in short z && numbers_fit zs

-- the tests of `write_frame`
abbrev pub write_tests : Frame → List ℕ → List Test
write_tests f line =
    too_long unless eqb (length f.currents) (length f.originals)
    ∷ too_long unless eqb (length f.marks) (length f.originals)
    ∷ too_long unless room_for (length f.originals) (length f.ends) (length line)
    ∷ bad_index unless ends_fit f.ends
    ∷ out_of_range unless numbers_fit f.originals
    ∷ out_of_range unless numbers_fit f.currents
    ∷ []

-- ---- what the call leaves
-- what it hands back: the answer and the count of digits, 0 beside a refusal
abbrev pub written_by : ℕ → ℕ → Written
written_by answer digits = record { answer = answer; digits = digits }

unfoldable pub frame_written : Frame → List ℕ → Written
frame_written f line = answered (refusal (write_tests f line)) (λ k. written_by k 0) (written_by 0 (length (frame_digits f)))

-- the line: the digits, and behind them what stood there; a refusal writes nothing
unfoldable pub line_written : Frame → List ℕ → List ℕ
line_written f line = answered (refusal (write_tests f line)) (λ _. line) (frame_digits f ++ drop (length (frame_digits f)) line)

-- what `write_frame` owes its caller: what it hands back, r, and the line that it leaves, `left`; and that the marks are bytes, since they are lent as such
pub record WritesFrame (f : Frame) (line : List ℕ) (r : Written) (left : List ℕ) : Type 0 where
  pub handed : r ≡ frame_written f line
  pub leaves : left ≡ line_written f line
  pub marked : Bytes f.marks
