-- The converter over lent segments and lent edges; it reads neither the dimension nor the major direction of the axis.
use Rattle.std.specs.Prelude.{◌≡◌, ◌&&◌, false, List, [], ◌∷◌, ℕ, ◌%◌, ◌<◌, eqb, leb, length, ℤ}
use Rattle.refusals.specs.Refusal.{Test}
use Rattle.axis.specs.Limits.{most_edges, most_segments}
use Rattle.turn.specs.Answer.{Turned}
use Rattle.turn.specs.Turning.{turned_index, turn_over}
use Rattle.words.specs.Word.{word_at}
use Rattle.words.specs.Edge.{edge_size, link_place, serif_place, word_of_edge, edges_in, edges_over}
use Rattle.words.specs.Segment.{segment_size, segments_in, flat_segments, segments_over}
use Rattle.words_shape.specs.Shape.{edges_shown, segments_shown}
use Rattle.words_call.specs.Kept.{is_one_of}
use Rattle.words_call.specs.Lent.{Lent, front, edges_of}

-- the tests in front, of both lists at a time
unfoldable pub turn_front : List ℤ → List ℤ → List Test
turn_front ws es =
    front (eqb (length ws % segment_size) 0 && eqb (length es % edge_size) 0) (leb (segments_in ws) most_segments && leb (edges_in es) most_edges) (segments_shown ws && edges_shown es)

-- what the call hands back
abbrev pub turned : List ℤ → List ℤ → Turned
turned ws es = turn_over (edges_of es) (flat_segments ws)

-- the segments and the edges
abbrev pub turned_words : List ℤ → List ℤ → Turned → List ℤ × List ℤ
turned_words ws es x = (segments_over ws x.segments, edges_over es x.axis)

abbrev pub TurnedLent : List ℤ → List ℤ → ℕ → List ℤ × List ℤ → Type 0
TurnedLent ws es = Lent (turn_front ws es) (turned ws es).answer (turned_words ws es (turned ws es)) (ws, es)

-- ---- which words can change
-- of a list of edges: each word of each edge but those of its link and its serif is the same word of the edge in the place counted from the other end
pub record EdgesTurned (before now : List ℤ) : Type 0 where
  pub size : length now ≡ length before
  pub word :
      (i j : ℕ) → i < edges_in before → j < edge_size → is_one_of (link_place ∷ serif_place ∷ []) j ≡ false
      → word_at now (word_of_edge i j) ≡ word_at before (word_of_edge (turned_index (edges_in before) i) j)
