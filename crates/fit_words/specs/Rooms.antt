-- Glyphs for which small rooms are enough.
use Rattle.std.specs.Prelude.{ℕ, ◌≤◌}

-- how many words of edges and how many points these have at the most
abbrev pub few_words : ℕ
few_words = 192

abbrev pub few_points : ℕ
few_points = 128

pub record Small (words count : ℕ) : Type 0 where
  pub edges : words ≤ few_words
  pub points : count ≤ few_points
