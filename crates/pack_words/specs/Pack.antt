-- Request #113 over lent segments and lent edges, with a place for the count; the call reads neither the dimension nor the major direction of the axis.
use Rattle.std.specs.Prelude.{◌≡◌, Bool, false, not, List, ℕ, ℤ, pos, get_or}
use Rattle.axis.specs.Refusals.{every}
use Rattle.pack.specs.Packed.{kept_count, packed_segments, packed_axis}
use Rattle.pack.specs.Call.{Packed, pack}
use Rattle.words.specs.Edge.{edges_over}
use Rattle.words.specs.Segment.{flat_segments, segments_over}
use Rattle.words_call.specs.Lent.{Lent, edges_of}
use Rattle.turn_words.specs.Lent.{turn_front}

-- ---- the promise
-- what the call hands back
abbrev pub packed : List ℤ → List ℤ → Packed
packed ws es = pack (edges_of es) (flat_segments ws)

-- the segments, empty ones behind the kept, the edges, and how many segments there are
abbrev pub packed_words : List ℤ → List ℤ → Packed → List ℤ × (List ℤ × ℤ)
packed_words ws es x = (segments_over ws x.segments, (edges_over es x.axis, pos x.segments.len))

abbrev pub PackedLent : List ℤ → List ℤ → ℤ → ℕ → List ℤ × (List ℤ × ℤ) → Type 0
PackedLent ws es count = Lent (turn_front ws es) (packed ws es).answer (packed_words ws es (packed ws es)) (ws, (es, count))

-- ---- on the way
-- both lists packed, and how many segments are kept
pub record PackedBoth (ws es : List ℤ) (count : ℕ) (ws' es' : List ℤ) : Type 0 where
  pub segments : ws' ≡ segments_over ws (packed_segments (flat_segments ws))
  pub edges : es' ≡ edges_over es (packed_axis (flat_segments ws) (edges_of es))
  pub counted : count ≡ kept_count (flat_segments ws)

-- none of the first m rings is broken
unfoldable pub none_broken : List Bool → ℕ → Bool
none_broken broken m = every (λ (k : ℕ). not (get_or broken k false)) m
