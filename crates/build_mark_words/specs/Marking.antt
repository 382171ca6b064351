-- Segments learn their edges, of which lists have the first segment and the last one, by walks along `next`.
use Rattle.std.specs.Prelude.{◌≡◌, true, List, ℕ, zero, suc, ◌≤◌, ◌<◌, get_or}
use Rattle.axis.specs.declared.segment.Segments.{Segments}
use Rattle.axis.specs.Limits.{most_edges, most_segments}
use Rattle.axis.specs.Ring.{walk, ends}
use Rattle.build_join.specs.Walks.{next_in}
use Rattle.build_mark.specs.Marks.{cleared, marks}

-- the edges are few, and each of their walks starts among n segments, leads over these alone, and ends
pub record RingsIn (n : ℕ) (first last next : List ℕ) (count : ℕ) : Type 0 where
  pub few : count ≤ most_edges
  pub starts : (k : ℕ) → k < count → get_or first k 0 < n
  pub stops : (k : ℕ) → k < count → ends (next_in next) n (get_or last k 0) most_segments (get_or first k 0) ≡ true

-- the segments of edge k in their order
abbrev pub walked : List ℕ → List ℕ → List ℕ → ℕ → List ℕ
walked first last next k = walk (next_in next) (get_or last k 0) most_segments (get_or first k 0)

-- those of the first n edges become members
unfoldable pub walked_marks : List ℕ → List ℕ → List ℕ → ℕ → Segments → Segments
walked_marks first last next zero t = t
walked_marks first last next (suc k) t = marks next k (walked first last next k) (walked_marks first last next k t)

-- once all is forgotten
abbrev pub marked_by : List ℕ → List ℕ → List ℕ → ℕ → Segments → Segments
marked_by first last next count t = walked_marks first last next count (cleared t)
