-- What building makes of the words of segments, once they have joined edges.
use Rattle.std.specs.Prelude.{◌≡◌, Bool, false, cond, List, ℕ, ◌*◌, ◌≤◌, length, ℤ}
use Rattle.axis.specs.Accepted.{SegmentsWithin}
use Rattle.axis.specs.Limits.{most_edges}
use Rattle.build_join.specs.declared.rules.Rules.{Rules}
use Rattle.build_join.specs.Joining.{State, last_state}
use Rattle.build_join.specs.Walks.{Joinable}
use Rattle.build_properties.specs.Properties.{edge_properties}
use Rattle.build.specs.Building.{built_segments, built_edges}
use Rattle.words.specs.Word.{written, joined}
use Rattle.words.specs.Edge.{edge_size, edges_in, edge_words_at}
use Rattle.words.specs.Segment.{flat_segments, segments_over}
use Rattle.words_segment.specs.Whole.{Whole}
use Rattle.build_join_words.specs.Lists.{Listed}

-- the state that joining comes to
abbrev pub state_of : List ℤ → Rules → State
state_of ws r = last_state (flat_segments ws) r

-- the lists are those of that state, and the edges that it has fill their room
pub record Filling (ws : List ℤ) (r : Rules) (first last next : List ℕ) (room : List ℤ) : Type 0 where
  pub whole : Whole ws
  pub within : SegmentsWithin (flat_segments ws)
  pub joinable : Joinable (flat_segments ws) r
  pub listed : Listed (state_of ws r) first last next false (edges_in room)
  pub filled : length room ≡ edge_size * edges_in room

-- the words of its edges with their properties
abbrev pub properties_words : List ℤ → Rules → List ℤ
properties_words ws r = joined (edge_words_at (edge_properties (built_edges (flat_segments ws) r (state_of ws r)) (built_segments (flat_segments ws) (state_of ws r)))) (state_of ws r).count

-- the words, as many, are those of the built segments, and the room has those of the built edges
pub record BuiltIn (ws : List ℤ) (r : Rules) (ws' room' : List ℤ) : Type 0 where
  pub long : length ws' ≡ length ws
  pub segments : ws' ≡ segments_over ws (built_segments (flat_segments ws) (state_of ws r))
  pub edges : room' ≡ properties_words ws r

-- the answer of joining; the edges stand in the front of the room, and what stands behind them stays; where a 129th edge was called for nothing is written
pub record BuildsIn (ws : List ℤ) (r : Rules) (room : List ℤ) (full : Bool) (count : ℕ) (ws' room' : List ℤ) : Type 0 where
  pub fulls : full ≡ (state_of ws r).full
  pub counts : count ≡ (state_of ws r).count
  pub few : count ≤ most_edges
  pub segments : ws' ≡ cond full ws (segments_over ws (built_segments (flat_segments ws) (state_of ws r)))
  pub edges : room' ≡ cond full room (written room 0 (properties_words ws r))
