-- The counts by which an edge has a segment.
use Rattle.std.specs.Prelude.{Bool, List, ℕ, ltb, get_or}

-- an edge has a segment, by the counts of them
abbrev pub is_named : List ℕ → ℕ → Bool
is_named counts k = ltb 0 (get_or counts k 0)
