-- Request #113: which segments a smaller axis keeps. Those that belong to an edge, and those that are reached from kept ones by links or serifs, and no more.
use Rattle.std.specs.Prelude.{◌≡◌, Bool, true, ◌&&◌, ◌||◌, List, ℕ, ◌≤◌, ◌<◌, ltb}
use Rattle.axis.specs.declared.segment.Segments.{Segments}
use Rattle.axis.specs.Accepted.{Below}
use Rattle.axis.specs.Limits.{most_segments}
use Rattle.axis.specs.Link.{is_linked, links_to}
use Rattle.axis.specs.Segment.{segment_at}
use Rattle.mend.specs.Following.{count}
use Rattle.pack.specs.Sets.{is_in}
use Rattle.pack.specs.Rounds.{reached}

-- segment i has k for its link or for its serif
unfoldable pub leads : Segments → ℕ → ℕ → Bool
leads t i k = links_to (segment_at t i).link k || links_to (segment_at t i).serif k

-- segment k belongs to an edge
unfoldable pub has_edge : Segments → ℕ → Bool
has_edge t k = ltb k t.len && is_linked (segment_at t k).edge

-- segment k is kept
unfoldable pub kept : Segments → ℕ → Bool
kept t k = reached (leads t) t.len (has_edge t) k

-- its new index: how many segments in front of it are kept
abbrev pub new_index : Segments → ℕ → ℕ
new_index t k = count (kept t) k

-- the same by what the set is, and not by how it is found: a set that holds every segment of an edge, and with a segment its link and its serif. `kept` is such a set, and is within every such set
-- (proofs/Keeping.antt, `keeps` and `keeps-no-more`)
pub record Keeps (t : Segments) (s : ℕ → Bool) : Type 0 where
  pub starts : (k : ℕ) → k < t.len → is_linked (segment_at t k).edge ≡ true → s k ≡ true
  pub on : (i k : ℕ) → i < t.len → k < t.len → s i ≡ true → leads t i k ≡ true → s k ≡ true

-- links and serifs are segments
pub record Linked (t : Segments) : Type 0 where
  pub few : t.len ≤ most_segments
  pub linked : (i : ℕ) → i < t.len → Below t.len (segment_at t i).link
  pub serifed : (i : ℕ) → i < t.len → Below t.len (segment_at t i).serif

-- a list says of each segment whether it is kept
pub record KeptAre (t : Segments) (list : List Bool) : Type 0 where
  pub at : (k : ℕ) → is_in list k ≡ kept t k
