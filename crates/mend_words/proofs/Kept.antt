-- Which words the call can change: of each segment link, serif and next, of each edge link, serif, first and last; with a refusal none.
use mathlib.Core.Path.{◌≡◌, refl, sym, ap, subst, ◌∙◌}
use mathlib.Core.Bool.{false, cond}
use mathlib.Core.List.{List, [], ◌∷◌}
use Prim.Native.Nat.{ℕ, zero, suc, ◌≤◌, ◌<◌}
use native.Mathlib.Omega.{arith}
use lib.Dec.{eqb}
use lib.ListN.{length, set}
use lib.IntN.{ℤ, pos}
use Rattle.refusals.proofs.Tests.{all_hold, no-refusal}
use Rattle.axis.specs.declared.edge.Axis.{Axis}
use Rattle.axis.specs.declared.edge.Edge.{Edge}
use Rattle.axis.specs.declared.kinds.Dimension.TheVariants as Dimensions
use Rattle.axis.specs.declared.kinds.Direction.TheVariants as Directions
use Rattle.axis.specs.Link.{Link}
use Rattle.axis.specs.declared.segment.Segment.{Segment}
use Rattle.axis.specs.declared.segment.Segments.{Segments}
use Rattle.axis.specs.Edge.{edge_at}
use Rattle.axis.specs.Limits.{most_edges, most_segments}
use Rattle.axis.specs.Segment.{segment_at}
use Rattle.mend.specs.Mend.{Mended}
use Rattle.mend.specs.Mended.{segment_with, edge_with}
use Rattle.mend.proofs.Determined.{when-accepted, accepted}
use Rattle.mend.proofs.Places.{mended-segment-at, mended-edge-at}
use Rattle.words.specs.Word.{word_at}
use Rattle.words.specs.Field.{link_word}
use Rattle.words.specs.Edge as E
use Rattle.words.specs.Segment as S
use Rattle.words.proofs.Edges.{edge-lengths}
use Rattle.words.proofs.Places.{joined_at, edge-read}
use Rattle.words.proofs.Tables.{joined_length}
use Rattle.words.proofs.Typed.{flat-typed, axis-typed}
use Rattle.words_shape.proofs.Back.{edges-back}
use Rattle.words_call.specs.Kept.{KeptBut, of_segments, is_one_of}
use Rattle.words_call.specs.Lent.{refused_or, edges_of}
use Rattle.words_call.proofs.Kept.{all-kept, segments-kept as kept, passed, not_new, lent-first}
use Rattle.words_call.proofs.Moved.{none_of, word-beside}
use Rattle.words_call.proofs.Whole.{edges_long, edges_whole}
use Rattle.words_edge.proofs.Wholes.{edges-len}
use Rattle.words_segment.proofs.Wholes.{segments-len}
use Rattle.turn_words.specs.Lent.{turn_front}
use Rattle.turn_words.proofs.Lending.{Shown, all_shown}
use Rattle.mend_words.specs.Mending.{mend_front, mended, mended_words, MendedLent, mended_of_segment, mended_of_edge, EdgesMended}

-- ---- one record
segment-word : (s : Segment) (link serif next : Link) (j : ℕ) → is_one_of mended_of_segment j ≡ false
    → word_at (S.segment_words (segment_with s link serif next)) j ≡ word_at (S.segment_words s) j
unfolding S.segment_words
segment-word s link serif next j h =
    let a = none_of S.link_place (S.serif_place ∷ S.next_place ∷ []) j h in
    let b = none_of S.serif_place (S.next_place ∷ []) j a.1 in
    let c = none_of S.next_place [] j b.1 in
    word-beside (set (set (S.segment_words s) S.link_place (link_word link)) S.serif_place (link_word serif)) S.next_place j (link_word next) c.0
    ∙ word-beside (set (S.segment_words s) S.link_place (link_word link)) S.serif_place j (link_word serif) b.0
    ∙ word-beside (S.segment_words s) S.link_place j (link_word link) a.0

edge-word : (e : Edge) (link serif : Link) (first last j : ℕ) → is_one_of mended_of_edge j ≡ false
    → word_at (E.edge_words (edge_with e link serif first last)) j ≡ word_at (E.edge_words e) j
unfolding E.edge_words
edge-word e link serif first last j h =
    let a = none_of E.link_place (E.serif_place ∷ E.first_place ∷ E.last_place ∷ []) j h in
    let b = none_of E.serif_place (E.first_place ∷ E.last_place ∷ []) j a.1 in
    let c = none_of E.first_place (E.last_place ∷ []) j b.1 in
    let d = none_of E.last_place [] j c.1 in
    word-beside (set (set (set (E.edge_words e) E.link_place (link_word link)) E.serif_place (link_word serif)) E.first_place (pos first)) E.last_place j (pos last)
    d.0
    ∙ word-beside (set (set (E.edge_words e) E.link_place (link_word link)) E.serif_place (link_word serif)) E.first_place j (pos first) c.0
    ∙ word-beside (set (E.edge_words e) E.link_place (link_word link)) E.serif_place j (link_word serif) b.0
    ∙ word-beside (E.edge_words e) E.link_place j (link_word link) a.0

-- ---- an accepted call
module _ (ws es : List ℤ) (e : (mended ws es).answer ≡ 0) (few : S.segments_in ws ≤ most_segments) (few-edges : E.edges_in es ≤ most_edges) where
  abbrev axis : Axis
  axis = edges_of es

  abbrev segments : Segments
  segments = S.flat_segments ws

  segment-same : (i j : ℕ) → i < segments.len → is_one_of mended_of_segment j ≡ false
      → word_at (S.segment_words_at (mended ws es).segments i) j ≡ word_at (S.segment_words_at segments i) j
  segment-same i j h f =
      ap (λ (x : Mended). word_at (S.segment_words_at x.segments i) j) (when-accepted axis segments (accepted axis segments e))
      ∙ ap (λ (s : Segment). word_at (S.segment_words s) j) (mended-segment-at axis segments (omega (arith, segments-len ws, (flat-typed ws).places, few)) i h)
      ∙ segment-word (segment_at segments i) _ _ _ j f

  edge_same : (i j : ℕ) → i < axis.len → is_one_of mended_of_edge j ≡ false → word_at (E.edge_words_at (mended ws es).axis i) j ≡ word_at (E.edge_words_at axis i) j
  edge_same i j h f =
      ap (λ (x : Mended). word_at (E.edge_words_at x.axis i) j) (when-accepted axis segments (accepted axis segments e))
      ∙ ap (λ (d : Edge). word_at (E.edge_words d) j)
      (mended-edge-at axis segments (omega (arith, edges-len es, (axis-typed es Dimensions.Horizontal Directions.None).places, few-edges)) i h)
      ∙ edge-word (edge_at axis i) _ _ _ _ j f

-- ---- the call
-- what answer 0 says of the tests in front, and of the call
all-passed : (ws es room : List ℤ) → 0 ≡ refused_or (mend_front ws es room) (mended ws es).answer → Shown ws es × ((mended ws es).answer ≡ 0)
unfolding mend_front turn_front
all-passed ws es room e =
    let p = passed (mend_front ws es room) (mended ws es).answer e in
    let h = all_hold (mend_front ws es room) refl p.0 in
    (all_shown ws es (no-refusal (turn_front ws es) h.1), p.1)

pub refused-left : (ws es room : List ℤ) (count : ℤ) {r : ℕ} {now : List ℤ × (List ℤ × (List ℤ × ℤ))} → MendedLent ws es room count r now → 0 < r
    → now ≡ (ws, (es, (room, count)))
refused-left ws es room count {r} {now} l h = by r h l.held
  where
    by : (r : ℕ) → 0 < r → now ≡ cond (eqb r 0) (mended_words ws es room (mended ws es)) (ws, (es, (room, count))) → now ≡ (ws, (es, (room, count)))
    by zero h e = absurd (omega arith)
    by (suc k) h e = e ∙ not_new k (mended_words ws es room (mended ws es)) (ws, (es, (room, count)))

pub segments-kept : (ws es room : List ℤ) (count : ℤ) {r : ℕ} {now : List ℤ} {rest : List ℤ × (List ℤ × ℤ)} → MendedLent ws es room count r (now, rest)
    → KeptBut (of_segments (λ (i : ℕ). is_one_of mended_of_segment)) ws now
segments-kept ws es room count {r} {now} {rest} l = by r l.number (lent-first l).held
  where
    by : (r : ℕ) → r ≡ refused_or (mend_front ws es room) (mended ws es).answer → now ≡ cond (eqb r 0) (S.segments_over ws (mended ws es).segments) ws
        → KeptBut (of_segments (λ (i : ℕ). is_one_of mended_of_segment)) ws now
    by zero e h =
        let p = all-passed ws es room e in
        subst (KeptBut (of_segments (λ (i : ℕ). is_one_of mended_of_segment)) ws) (sym h)
        (kept (λ (i : ℕ). is_one_of mended_of_segment) ws (mended ws es).segments p.0.segments-shown p.0.few-segments
        (λ i j g f. segment-same ws es p.1 p.0.few-segments p.0.few-edges i j g f))
    by (suc k) e h =
        subst (KeptBut (of_segments (λ (i : ℕ). is_one_of mended_of_segment)) ws) (sym (h ∙ not_new k (S.segments_over ws (mended ws es).segments) ws))
        (all-kept _ ws)

pub edges-kept : (ws es room : List ℤ) (count : ℤ) {now edges altered : List ℤ} {n : ℤ} → MendedLent ws es room count 0 (now, (edges, (altered, n)))
    → EdgesMended es edges
edges-kept ws es room count {now} {edges} {altered} {n} l =
    let p = all-passed ws es room l.number in
    let few = p.0.few-edges in
    let axis' = (mended ws es).axis in
    let held = ap (λ (x : List ℤ × (List ℤ × (List ℤ × ℤ))). x.1.0) l.held ∙ edges_whole es axis' p.0.edges-shown few in
    record {
      size = ap length held ∙ joined_length (E.edge_words_at axis') E.edge_size (edge-lengths axis') (E.edges_in es) ∙ sym (edges_long es p.0.edges-shown);
      word = λ i j h b f.
          ap (λ (xs : List ℤ). word_at xs (E.word_of_edge i j)) held
          ∙ joined_at (E.edge_words_at axis') E.edge_size (edge-lengths axis') (E.edges_in es) i j h b
          ∙ edge_same ws es p.1 p.0.few-segments few i j (omega (arith, h, edges-len es)) f
          ∙ ap (λ (d : Edge). word_at (E.edge_words d) j) (edge-read es _ _ i h few)
          ∙ edges-back es p.0.edges-shown i j h b;
    }
