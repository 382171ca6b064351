-- Writing and reading over lent places for the counts, as a gateway calls them: with answer 0 everything lent holds the new, and otherwise what it held.
use Rattle.std.specs.Prelude.{List, ◌++◌, ℕ, length, drop}
use Rattle.words_call.specs.Lent.{Lent}
use Rattle.log_frame.specs.Frame.{Frame, frame_digits, frame_in, points_in, contours_in}
use Rattle.log_frame.specs.Write.{write_tests}
use Rattle.log_frame.specs.Read.{read_tests, over_rooms}

-- the line with the digits at its beginning, and how many they are
abbrev pub WritesLent : Frame → List ℕ → ℕ → ℕ → List ℕ × ℕ → Type 0
WritesLent f line digits = Lent (write_tests f line) 0 (frame_digits f ++ drop (length (frame_digits f)) line, length (frame_digits f)) (line, digits)

-- the rooms with the line's frame at their beginnings, and how many points and contours it has
abbrev pub ReadsLent : List ℕ → Frame → ℕ → ℕ → ℕ → Frame × (ℕ × ℕ) → Type 0
ReadsLent line rooms points contours = Lent (read_tests line rooms) 0 (over_rooms (frame_in line) rooms, (points_in line, contours_in line)) (rooms, (points, contours))
