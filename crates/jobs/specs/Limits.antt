-- The lengths of lent lists.
use Rattle.std.specs.Prelude.{ℕ}

-- edges of a list that a job lends
abbrev pub most_lent : ℕ
most_lent = 160
