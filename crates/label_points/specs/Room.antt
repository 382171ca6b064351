-- Room for the steps of a path, as in `src/path.rt`.
use Rattle.std.specs.Prelude.{ℕ, ◌*◌}
use Rattle.tool_lines.specs.Limits.{most_numbers}

-- Steps that the longest lists of a job can make.
abbrev pub most_steps : ℕ
most_steps = 3 * most_numbers

-- Numbers that they have room for.
abbrev pub most_places : ℕ
most_places = 4 * most_steps
