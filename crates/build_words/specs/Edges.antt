-- The edges that lists of first and last segments stand for, where the words of the segments stand.
use Rattle.std.specs.Prelude.{List, ℕ, ◌≤◌, ◌<◌, ℤ, get_or}
use Rattle.std.specs.Int.{w32}
use Rattle.std.proofs.Common.{SFits}
use Rattle.fixed.specs.Point.{mul_fix}
use Rattle.axis.specs.declared.edge.Edge.{Edge}
use Rattle.axis.specs.Edge.{with_last}
use Rattle.axis.specs.Limits.{most_edges}
use Rattle.build_join.specs.Joining.{new_edge}
use Rattle.build_join_words.specs.Reading.{words_of}
use Rattle.words.specs.Edge.{edge_words}
use Rattle.words.specs.Segment.{segments_in}

-- the edge from its first segment to its last
abbrev pub edge_between : List ℤ → ℤ → ℕ → ℕ → Edge
edge_between ws scale first last = with_last (new_edge (words_of ws first) scale first) last

-- the words of edge k of the lists
abbrev pub listed_words : List ℤ → ℤ → List ℕ → List ℕ → ℕ → List ℤ
listed_words ws scale first last k = edge_words (edge_between ws scale (get_or first k 0) (get_or last k 0))

-- no more edges than the lists have places, each of a segment that is there, at a position that fits
pub record Room (ws : List ℤ) (scale : ℤ) (first : List ℕ) (count : ℕ) : Type 0 where
  pub few : count ≤ most_edges
  pub starts : (k : ℕ) → k < count → get_or first k 0 < segments_in ws
  pub fits : (k : ℕ) → k < count → SFits w32 (mul_fix (words_of ws (get_or first k 0)).pos scale)
