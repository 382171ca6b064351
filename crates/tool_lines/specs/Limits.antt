-- What a job can carry, each number named here alone.
use Rattle.std.specs.Prelude.{ℕ, ◌+◌, ◌*◌}

-- numbers of a list
abbrev pub most_numbers : ℕ
most_numbers = 8191

-- words of a job: the longest has its call, full tables of segments and edges, nine numbers, and seven lists of numbers, each behind its count
abbrev pub most_words : ℕ
most_words = 1 + 7681 + 1537 + 10 + 7 * (1 + most_numbers)
