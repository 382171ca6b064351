-- Reading a frame from a line without its line feed into lent rooms, one for each list, of as many places as a frame can have.
use Rattle.std.specs.Prelude.{◌≡◌, Bool, ◌&&◌, List, [], ◌∷◌, ◌++◌, ℕ, eqb, length, drop}
use Rattle.refusals.specs.Refusal.{Test, ◌unless◌, refusal, answered}
use Rattle.words_call.specs.Lent.{not_words}
use Rattle.log_frame.specs.Limits.{most_counted}
use Rattle.log_frame.specs.Frame.{Frame, good_line, frame_in, points_in, contours_in}
use Rattle.log_frame.specs.Answer.{ReadFrame}

-- ---- the refusals
-- the line is not a whole frame
abbrev pub not_frame : ℕ
not_frame = 6

-- a room has a place for each that a frame can have, and no other
abbrev pub is_room : ℕ → Bool
is_room places = eqb places most_counted

-- each of the rooms, by their lengths
unfoldable pub are_rooms : ℕ → ℕ → ℕ → ℕ → Bool
are_rooms originals currents marks ends = is_room originals && (is_room currents && (is_room marks && is_room ends))

-- the tests of `read_frame`: a room of another length, and a line that is not good
abbrev pub read_tests : List ℕ → Frame → List Test
read_tests line rooms =
    not_words unless are_rooms (length rooms.originals) (length rooms.currents) (length rooms.marks) (length rooms.ends)
    ∷ not_frame unless good_line line
    ∷ []

-- ---- what the call leaves
-- what it hands back: the answer, and the counts of points and contours, 0 beside a refusal
abbrev pub read_by : ℕ → ℕ → ℕ → ReadFrame
read_by answer points contours = record { answer = answer; points = points; contours = contours }

unfoldable pub frame_read : List ℕ → Frame → ReadFrame
frame_read line rooms = answered (refusal (read_tests line rooms)) (λ k. read_by k 0 0) (read_by 0 (points_in line) (contours_in line))

-- a room with a list at its beginning, and behind it what stood there
unfoldable pub over : {A : Type 0} → List A → List A → List A
over list room = list ++ drop (length list) room

-- the rooms with a frame at their beginnings
unfoldable pub over_rooms : Frame → Frame → Frame
over_rooms f rooms = record {
  originals = over f.originals rooms.originals;
  currents = over f.currents rooms.currents;
  marks = over f.marks rooms.marks;
  ends = over f.ends rooms.ends;
}

-- the rooms at the end: a refusal writes nothing
unfoldable pub rooms_read : List ℕ → Frame → Frame
rooms_read line rooms = answered (refusal (read_tests line rooms)) (λ _. rooms) (over_rooms (frame_in line) rooms)

-- what `read_frame` owes its caller: what it hands back, r, and the rooms that it leaves, `left`
pub record ReadsFrame (line : List ℕ) (rooms : Frame) (r : ReadFrame) (left : Frame) : Type 0 where
  pub handed : r ≡ frame_read line rooms
  pub leaves : left ≡ rooms_read line rooms
