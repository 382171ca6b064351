-- Which words the call can change: of each segment its edge; of the edges, link and serif are renumbered and every other word comes to stand in the place
-- counted from
-- the other end; with a refusal none.
use mathlib.Core.Path.{◌≡◌, sym, ap, subst, ◌∙◌}
use mathlib.Core.Bool.{false, cond}
use mathlib.Core.List.{List, [], ◌∷◌}
use Prim.Native.Nat.{ℕ, zero, suc, ◌<◌}
use native.Mathlib.Omega.{arith}
use lib.Dec.{eqb}
use lib.ListN.{length, set}
use lib.IntN.{ℤ}
use Rattle.axis.specs.declared.edge.Edge.{Edge}
use Rattle.axis.specs.declared.edge.Axis.{Axis}
use Rattle.axis.specs.Link.{Link}
use Rattle.axis.specs.declared.segment.Segment.{Segment}
use Rattle.axis.specs.declared.segment.Segments.{Segments}
use Rattle.axis.specs.Edge.{edge_at, joined_to}
use Rattle.axis.specs.Segment.{segment_at}
use Rattle.turn.specs.Answer.{Turned}
use Rattle.turn.specs.Turning.{turned_index, turned_link, turned_segment, turned_axis, turned_segments, beside}
use Rattle.turn.proofs.Calls.{Taken, taken}
use Rattle.turn.proofs.Determined.{when-accepted, accepted}
use Rattle.turn.proofs.Places.{turned-edge-at, turned-segment-at}
use Rattle.turn.proofs.Twice as Twice
use Rattle.words.specs.Word.{word_at}
use Rattle.words.specs.Field.{link_word}
use Rattle.words.specs.Edge as E
use Rattle.words.specs.Segment as S
use Rattle.words.proofs.Edges.{edge-lengths}
use Rattle.words.proofs.Places.{joined_at, edge-read}
use Rattle.words.proofs.Tables.{joined_length}
use Rattle.words.proofs.Typed.{flat-typed, axis-typed}
use Rattle.words_shape.proofs.Back.{edges-back}
use Rattle.words_call.specs.Kept.{KeptBut, of_segments, is_one_of}
use Rattle.words_call.specs.Lent.{refused_or, edges_of}
use Rattle.words_call.proofs.Kept.{all-kept, segments-kept as kept, passed, not_new, lent-first}
use Rattle.words_call.proofs.Moved.{none_of, word-beside}
use Rattle.words_call.proofs.Whole.{edges_long, edges_whole}
use Rattle.words_edge.proofs.Wholes.{edges-len}
use Rattle.turn_words.specs.Lent.{turn_front, turned, turned_words, TurnedLent, EdgesTurned}
use Rattle.turn_words.proofs.Lending.{Shown, all_shown}

-- ---- one record
-- the words of a segment but its edge's
abbrev pub turned_word : List ℕ
turned_word = S.edge_place ∷ []

segment-word : (m : ℕ) (s : Segment) (j : ℕ) → is_one_of turned_word j ≡ false → word_at (S.segment_words (turned_segment m s)) j ≡ word_at (S.segment_words s) j
unfolding S.segment_words
segment-word m s j h = word-beside (S.segment_words s) S.edge_place j (link_word (turned_link m s.edge)) (none_of S.edge_place [] j h).0

-- those of an edge but its link's and its serif's
edge-word : (e : Edge) (link serif : Link) (j : ℕ) → is_one_of (E.link_place ∷ E.serif_place ∷ []) j ≡ false
    → word_at (E.edge_words (joined_to e link serif)) j ≡ word_at (E.edge_words e) j
unfolding E.edge_words
edge-word e link serif j h =
    let a = none_of E.link_place (E.serif_place ∷ []) j h in
    let b = none_of E.serif_place [] j a.1 in
    word-beside (set (E.edge_words e) E.link_place (link_word link)) E.serif_place j (link_word serif) b.0
    ∙ word-beside (E.edge_words e) E.link_place j (link_word link) a.0

-- ---- an accepted call
module _ (ws es : List ℤ) (e : (turned ws es).answer ≡ 0) where
  abbrev axis : Axis
  axis = edges_of es

  abbrev segments : Segments
  segments = S.flat_segments ws

  is-taken : Taken axis segments
  is-taken = taken axis segments (accepted axis segments e)

  outcome : turned ws es ≡ beside (turned_axis axis) (turned_segments axis.len segments) 0
  outcome = when-accepted axis segments (accepted axis segments e)

  segment-same : (i j : ℕ) → i < segments.len → is_one_of turned_word j ≡ false
      → word_at (S.segment_words_at (turned ws es).segments i) j ≡ word_at (S.segment_words_at segments i) j
  segment-same i j h f =
      ap (λ (x : Turned). word_at (S.segment_words_at x.segments i) j) outcome
      ∙ ap (λ (s : Segment). word_at (S.segment_words s) j)
      (turned-segment-at axis.len segments (Twice.segments_whole axis segments (axis-typed es _ _) (flat-typed ws) is-taken) i h)
      ∙ segment-word axis.len (segment_at segments i) j f

  edge_moved : (i j : ℕ) → i < axis.len → is_one_of (E.link_place ∷ E.serif_place ∷ []) j ≡ false
      → word_at (E.edge_words_at (turned ws es).axis i) j ≡ word_at (E.edge_words_at axis (turned_index axis.len i)) j
  edge_moved i j h f =
      ap (λ (x : Turned). word_at (E.edge_words_at x.axis i) j) outcome
      ∙ ap (λ (d : Edge). word_at (E.edge_words d) j) (turned-edge-at axis (Twice.edges_whole axis segments (axis-typed es _ _) (flat-typed ws) is-taken) i h)
      ∙ edge-word (edge_at axis (turned_index axis.len i)) _ _ j f

-- ---- the tests in front
-- what answer 0 says of them, and of the call
all-passed : (ws es : List ℤ) → 0 ≡ refused_or (turn_front ws es) (turned ws es).answer → Shown ws es × ((turned ws es).answer ≡ 0)
all-passed ws es e = let p = passed (turn_front ws es) (turned ws es).answer e in (all_shown ws es p.0, p.1)

pub refused-left : (ws es : List ℤ) {r : ℕ} {now : List ℤ × List ℤ} → TurnedLent ws es r now → 0 < r → now ≡ (ws, es)
refused-left ws es {r} {now} l h = by r h l.held
  where
    by : (r : ℕ) → 0 < r → now ≡ cond (eqb r 0) (turned_words ws es (turned ws es)) (ws, es) → now ≡ (ws, es)
    by zero h e = absurd (omega arith)
    by (suc k) h e = e ∙ not_new k (turned_words ws es (turned ws es)) (ws, es)

-- ---- segments
pub segments-kept : (ws es : List ℤ) {r : ℕ} {now edges : List ℤ} → TurnedLent ws es r (now, edges)
    → KeptBut (of_segments (λ (i : ℕ). is_one_of turned_word)) ws now
segments-kept ws es {r} {now} {edges} l = by r l.number (lent-first l).held
  where
    by : (r : ℕ) → r ≡ refused_or (turn_front ws es) (turned ws es).answer → now ≡ cond (eqb r 0) (S.segments_over ws (turned ws es).segments) ws
        → KeptBut (of_segments (λ (i : ℕ). is_one_of turned_word)) ws now
    by zero e h =
        let p = all-passed ws es e in
        subst (KeptBut (of_segments (λ (i : ℕ). is_one_of turned_word)) ws) (sym h)
        (kept (λ (i : ℕ). is_one_of turned_word) ws (turned ws es).segments p.0.segments-shown p.0.few-segments
        (λ i j g f. segment-same ws es p.1 i j g f))
    by (suc k) e h =
        subst (KeptBut (of_segments (λ (i : ℕ). is_one_of turned_word)) ws) (sym (h ∙ not_new k (S.segments_over ws (turned ws es).segments) ws)) (all-kept _ ws)

-- ---- edges
edges-held : (ws es : List ℤ) {now edges : List ℤ} → TurnedLent ws es 0 (now, edges) → edges ≡ E.edges_over es (turned ws es).axis
edges-held ws es {now} {edges} l = ap (λ (p : List ℤ × List ℤ). p.1) l.held

pub edges-turned : (ws es : List ℤ) {now edges : List ℤ} → TurnedLent ws es 0 (now, edges) → EdgesTurned es edges
edges-turned ws es {now} {edges} l =
    let p = all-passed ws es l.number in
    let few = p.0.few-edges in
    let held = edges-held ws es l ∙ edges_whole es (turned ws es).axis p.0.edges-shown few in
    record {
      size =
          ap length held ∙ joined_length (E.edge_words_at (turned ws es).axis) E.edge_size (edge-lengths (turned ws es).axis) (E.edges_in es)
          ∙ sym (edges_long es p.0.edges-shown);
      word = λ i j h b f.
          let q : turned_index (E.edges_in es) i < E.edges_in es = omega arith in
          ap (λ (xs : List ℤ). word_at xs (E.word_of_edge i j)) held
          ∙ joined_at (E.edge_words_at (turned ws es).axis) E.edge_size (edge-lengths (turned ws es).axis) (E.edges_in es) i j h b
          ∙ edge_moved ws es p.1 i j (omega (arith, h, edges-len es)) f
          ∙ ap (λ (n : ℕ). word_at (E.edge_words_at (edges_of es) (turned_index n i)) j) (edges-len es)
          ∙ ap (λ (d : Edge). word_at (E.edge_words d) j) (edge-read es _ _ (turned_index (E.edges_in es) i) q few)
          ∙ edges-back es p.0.edges-shown (turned_index (E.edges_in es) i) j q b;
    }
