-- The call over lent segments and lent edges, with a room for the list of what was altered and a place for its count; it reads neither the dimension nor the major direction of the axis.
use Rattle.std.specs.Prelude.{◌≡◌, Bool, true, false, cond, List, [], ◌∷◌, ◌++◌, ℕ, ◌*◌, ◌<◌, eqb, length, ℤ, pos}
use Rattle.refusals.specs.Refusal.{Test, ◌unless◌, broken_ring}
use Rattle.axis.specs.declared.edge.Axis.{Axis}
use Rattle.axis.specs.declared.segment.Segments.{Segments}
use Rattle.mend.specs.Altered.{Alteration, alterations, most_altered}
use Rattle.mend.specs.Mend.{Mended, edges_named, mend}
use Rattle.mend.specs.Mended.{mended_axis, mended_segments}
use Rattle.mend.specs.Plan.{planned_segments, planned_axis, segments_listed, edges_listed}
use Rattle.words.specs.Edge.{edges_over}
use Rattle.words.specs.Edge as E
use Rattle.words.specs.Segment.{flat_segments, segments_over}
use Rattle.words.specs.Segment as S
use Rattle.words.specs.Word.{word_at, written}
use Rattle.words_call.specs.Kept.{is_one_of}
use Rattle.words_call.specs.Lent.{Lent, not_words, edges_of}
use Rattle.turn_words.specs.Lent.{turn_front}
use Rattle.mend_amend_words.specs.Listing.{alteration_size, list_words}

-- ---- the plan
-- what each record becomes by lists of numbers is what it is mended to, where every edge has a segment
pub record Planned (ws es : List ℤ) (r : Bool) (edges next : List ℕ) (broken : List Bool) (lows highs : List ℕ) : Type 0 where
  pub named : r ≡ edges_named (edges_of es) (flat_segments ws)
  pub segments : r ≡ true → planned_segments edges next (flat_segments ws) ≡ mended_segments (edges_of es) (flat_segments ws)
  pub axis : r ≡ true → planned_axis broken lows highs (edges_of es) ≡ mended_axis (edges_of es) (flat_segments ws)
  pub listed :
      r ≡ true
      → segments_listed edges next (flat_segments ws) (flat_segments ws).len ++ edges_listed broken lows highs (edges_of es) (edges_of es).len
      ≡ alterations (edges_of es) (flat_segments ws) (mended_axis (edges_of es) (flat_segments ws)) (mended_segments (edges_of es) (flat_segments ws))

-- ---- the call
-- the tests in front: the room, then both lists as the converter tests them
unfoldable pub mend_front : List ℤ → List ℤ → List ℤ → List Test
mend_front ws es room = not_words unless eqb (length room) (alteration_size * most_altered) ∷ turn_front ws es

-- what the call hands back
abbrev pub mended : List ℤ → List ℤ → Mended
mended ws es = mend (edges_of es) (flat_segments ws)

-- the segments, the edges, the list at the front of the room, and how many alterations it has
abbrev pub written_as : List ℤ → List ℤ → List ℤ → Segments → Axis → List Alteration → List ℤ × (List ℤ × (List ℤ × ℤ))
written_as ws es room t axis altered = (segments_over ws t, (edges_over es axis, (written room 0 (list_words altered), pos (length altered))))

abbrev pub mended_words : List ℤ → List ℤ → List ℤ → Mended → List ℤ × (List ℤ × (List ℤ × ℤ))
mended_words ws es room x = written_as ws es room x.segments x.axis x.altered

abbrev pub MendedLent : List ℤ → List ℤ → List ℤ → ℤ → ℕ → List ℤ × (List ℤ × (List ℤ × ℤ)) → Type 0
MendedLent ws es room count = Lent (mend_front ws es room) (mended ws es).answer (mended_words ws es room (mended ws es)) (ws, (es, (room, count)))

-- ---- behind its other tests
abbrev pub mended_all : List ℤ → List ℤ → List ℤ → List ℤ × (List ℤ × (List ℤ × ℤ))
mended_all ws es room =
    written_as ws es room (mended_segments (edges_of es) (flat_segments ws)) (mended_axis (edges_of es) (flat_segments ws))
    (alterations (edges_of es) (flat_segments ws) (mended_axis (edges_of es) (flat_segments ws)) (mended_segments (edges_of es) (flat_segments ws)))

abbrev pub MendedIn : List ℤ → List ℤ → List ℤ → ℤ → ℕ → List ℤ × (List ℤ × (List ℤ × ℤ)) → Type 0
MendedIn ws es room count = Lent [] (cond (edges_named (edges_of es) (flat_segments ws)) 0 broken_ring) (mended_all ws es room) (ws, (es, (room, count)))

-- ---- which words can change
-- those of a segment, and those of an edge, in these places
abbrev pub mended_of_segment : List ℕ
mended_of_segment = S.link_place ∷ S.serif_place ∷ S.next_place ∷ []

abbrev pub mended_of_edge : List ℕ
mended_of_edge = E.link_place ∷ E.serif_place ∷ E.first_place ∷ E.last_place ∷ []

-- every other word of each edge is as it was
pub record EdgesMended (before now : List ℤ) : Type 0 where
  pub size : length now ≡ length before
  pub word : (i j : ℕ) → i < E.edges_in before → j < E.edge_size → is_one_of mended_of_edge j ≡ false → word_at now (E.word_of_edge i j) ≡ word_at before (E.word_of_edge i j)
