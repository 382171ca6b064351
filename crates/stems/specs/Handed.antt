-- Where the stem pass takes positions.
use Rattle.std.specs.Prelude.{ℕ}

-- how far from 0 a position can be behind the pass: document 01's 16,777,216 for what is given, and 262,188 for each of at most 128 visits
abbrev pub most_fitted : ℕ
most_fitted = 50337280
