-- What an answer can carry.
use Rattle.std.specs.Prelude.{ℕ, ◌+◌, ◌*◌}
use Rattle.weak_contour.specs.Limits.{most_points}

-- words of the longest answer, that of a path: the answer, a count and nine words for each lone point off the curve, a move, a curve and a close
abbrev pub longest : ℕ
longest = 2 + 9 * most_points
