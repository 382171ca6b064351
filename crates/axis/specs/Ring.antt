-- Rings: the segments of an edge, in the order in which each one's next leads from the edge's first to its last.
use Rattle.std.specs.Prelude.{◌≡◌, Bool, true, cond, ◌&&◌, List, [], ◌∷◌, ℕ, zero, suc, ◌+◌, ◌<◌, eqb, ltb}
use Rattle.axis.specs.declared.edge.Axis.{Axis}
use Rattle.axis.specs.declared.segment.Segments.{Segments}
use Rattle.axis.specs.Edge.{edge_at}
use Rattle.axis.specs.Segment.{segment_at}
use Rattle.axis.specs.Limits.{most_segments}
use Rattle.axis.specs.Link.{links_to, index_or}
use Rattle.axis.specs.Refusals.{every}

-- ---- walks
-- the numbers visited from ix up to the last, each the next of the one before, in at most n steps
unfoldable pub walk : (ℕ → ℕ) → ℕ → ℕ → ℕ → List ℕ
walk next last zero ix = ix ∷ []
walk next last (suc n) ix = cond (eqb ix last) (ix ∷ []) (ix ∷ walk next last n (next ix))

-- that walk comes to the last, and leads over numbers below m alone
unfoldable pub ends : (ℕ → ℕ) → ℕ → ℕ → ℕ → ℕ → Bool
ends next m last zero ix = eqb ix last
ends next m last (suc n) ix = cond (eqb ix last) true (ltb (next ix) m && ends next m last n (next ix))

-- how often a number occurs in a list
unfoldable pub times : ℕ → List ℕ → ℕ
times i [] = 0
times i (m ∷ ms) = cond (eqb i m) 1 0 + times i ms

-- ---- the segments of an edge
-- the segment behind segment ix on the way to the last: its next, or the last where it has none
abbrev pub next_of : Segments → ℕ → ℕ → ℕ
next_of t last ix = index_or last (segment_at t ix).next

-- the segments of edge k in their order
abbrev pub members : Axis → Segments → ℕ → List ℕ
members axis t k = walk (next_of t (edge_at axis k).last) (edge_at axis k).last most_segments (edge_at axis k).first

-- the segments from the first to the last can be walked: the walk along them starts in the table, and ends
pub record Walked (t : Segments) (first last : ℕ) : Type 0 where
  pub starts : first < t.len
  pub stops : ends (next_of t last) t.len last most_segments first ≡ true

-- so it is for every edge
pub record AllWalked (axis : Axis) (t : Segments) : Type 0 where
  pub ring : (k : ℕ) → k < axis.len → Walked t (edge_at axis k).first (edge_at axis k).last

-- ---- sound rings
-- the segments visited from the first one on, each the next of the one before, up to the last
abbrev pub visited : (ℕ → ℕ) → ℕ → ℕ → List ℕ
visited next first last = walk next last most_segments first

-- of n segments, with `own` for those of an edge and `next` for the segment behind each, no number below n where there is none: following the ring from the first segment
-- visits each segment of the edge once, no other, and ends at the last, whose next is the first
pub record SoundRing (own : ℕ → Bool) (next : ℕ → ℕ) (n first last : ℕ) : Type 0 where
  pub starts : first < n
  pub stops : ends next n last most_segments first ≡ true
  pub closed : next last ≡ first
  pub visits : (i : ℕ) → i < n → times i (visited next first last) ≡ cond (own i) 1 0

-- the same as a test
unfoldable pub sound_ring : (ℕ → Bool) → (ℕ → ℕ) → ℕ → ℕ → ℕ → Bool
sound_ring own next n first last =
    ltb first n
    && (ends next n last most_segments first && (eqb (next last) first && every (λ (i : ℕ). eqb (times i (visited next first last)) (cond (own i) 1 0)) n))

-- segment i is of edge k: its edge index says so
abbrev pub is_of : Segments → ℕ → ℕ → Bool
is_of t k i = links_to (segment_at t i).edge k

-- the segment that segment i leads to; where it has no next the count stands, which is no segment
abbrev pub led_to : Segments → ℕ → ℕ
led_to t i = index_or t.len (segment_at t i).next

-- the ring of edge k is sound
abbrev pub Sound : Axis → Segments → ℕ → Type 0
Sound axis t k = SoundRing (is_of t k) (led_to t) t.len (edge_at axis k).first (edge_at axis k).last

-- the same as a test
abbrev pub is_sound : Axis → Segments → ℕ → Bool
is_sound axis t k = sound_ring (is_of t k) (led_to t) t.len (edge_at axis k).first (edge_at axis k).last
