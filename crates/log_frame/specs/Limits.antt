-- The limits of a frame (document 02, #103), each named here alone.
use Rattle.std.specs.Prelude.{ℕ, ◌+◌, ◌*◌}
use Rattle.log_digits.specs.Digits.{digits_for}

-- points, and contours: what one byte counts; and the largest contour end
abbrev pub most_counted : ℕ
most_counted = 255

-- bytes in front of the points, and bytes of a point
abbrev pub head_size : ℕ
head_size = 3

abbrev pub point_size : ℕ
point_size = 5

-- bytes of a frame of n points and k contours
abbrev pub frame_size : ℕ → ℕ → ℕ
frame_size n k = head_size + point_size * n + k

-- digits of the longest line, 3,066
abbrev pub most_digits : ℕ
most_digits = digits_for (frame_size most_counted most_counted)
