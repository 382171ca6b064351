-- Words that are not touched stay: where the table that a call hands back has the words of the one that it read, so has the list.
use mathlib.Core.Path.{◌≡◌, refl, sym, ap, subst, ◌∙◌}
use mathlib.Core.Bool.{Bool, true, false, cond}
use mathlib.Core.List.{List}
use mathlib.Core.Logic.{⊎_elim}
use Prim.Native.Nat.{ℕ, zero, suc, ◌+◌, ◌*◌, ◌/◌, ◌%◌, ◌≤◌, ◌<◌, min}
use native.Mathlib.Omega.{arith}
use borrow.Author.Tests.{leb-true, ne_eqb}
use lib.Dec.{eqb}
use lib.ListN.{length, get_or-eq_default}
use lib.IntN.{ℤ, pos}
use Rattle.signed.proofs.Signed.{lt-or-le}
use Rattle.refusals.specs.Refusal.{Test, refusal, answered}
use Rattle.refusals.proofs.Tests.{and_first, all_hold}
use Rattle.axis.specs.declared.kinds.Dimension.{Dimension}
use Rattle.axis.specs.declared.kinds.Direction.{Direction}
use Rattle.axis.specs.declared.edge.Edge.{Edge}
use Rattle.axis.specs.declared.edge.Axis.{Axis}
use Rattle.axis.specs.declared.segment.Segment.{Segment}
use Rattle.axis.specs.declared.segment.Segments.{Segments}
use Rattle.axis.specs.Edge.{edge_at}
use Rattle.axis.specs.Segment.{segment_at}
use Rattle.axis.specs.Limits.{most_edges, most_segments}
use Rattle.words.specs.Word.{word_at, written, joined}
use Rattle.words.specs.Edge.{edges_in, flat_axis, edge_words, edge_words_at, edges_over}
use Rattle.words.specs.Segment.{segments_in, segments_run, flat_segments, segment_words, segment_words_at, segments_over}
use Rattle.words.proofs.Tables.{joined_length}
use Rattle.words.proofs.Places.{joined_at, edge-read, segment-read}
use Rattle.words.specs.Record.{Layout, count_of, WholeOf}
use Rattle.words.proofs.Codecs.{Codec}
use Rattle.words.proofs.Wholes.{placed-in, over}
use Rattle.words.proofs.Became.{table-over}
use Rattle.words.proofs.Layouts.{edge_codec, segment_codec}
use Rattle.words_shape.specs.Shape.{edges_shown, segments_shown}
use Rattle.words_call.specs.Lent.{Lent, refused_or, edges_front, segments_front}
use Rattle.words_call.specs.Kept.{KeptBut, of_edges, of_segments}
use Rattle.words_call.proofs.Whole.{edges-shown, segments-shown}

-- every word stays
pub all-kept : (named : ℕ → Bool) (ws : List ℤ) → KeptBut named ws ws
all-kept named ws = record { size = refl; word = λ k f. refl }

-- records written over the words of their list, of each the word in place j the same unless it is named
module _ {R : Type 0} {L : Layout R} (C : Codec L) (named : ℕ → ℕ → Bool) (ws : List ℤ) (f : ℕ → R) (w : WholeOf L ws)
    (same : (i j : ℕ) → i < count_of L ws → named i j ≡ false → word_at (L.words (f i)) j ≡ word_at (L.words (L.from ws (L.size * i))) j) where
  abbrev now : List ℤ
  now = written ws 0 (joined (λ (i : ℕ). L.words (f i)) (min (count_of L ws) L.most))

  whole_is : now ≡ joined (λ (i : ℕ). L.words (f i)) (count_of L ws)
  whole_is = over C ws f w

  size : length now ≡ length ws
  size = ap length whole_is ∙ joined_length (λ (i : ℕ). L.words (f i)) L.size (λ i. C.sized (f i)) (count_of L ws) ∙ sym w.long

  inside : (k : ℕ) → k < length ws → named (k / L.size) (k % L.size) ≡ false → word_at now k ≡ word_at ws k
  inside k h q =
      let p = placed-in L.size (count_of L ws) k (omega (arith, w.long)) in
      let i = k / L.size in
      let j = k % L.size in
      subst (λ (m : ℕ). word_at now m ≡ word_at ws m) p.2
      (ap (λ (xs : List ℤ). word_at xs (L.size * i + j)) whole_is
      ∙ joined_at (λ (i : ℕ). L.words (f i)) L.size (λ i. C.sized (f i)) (count_of L ws) i j p.0 p.1
      ∙ same i j p.0 q ∙ w.word i j p.0 p.1)

  kept-over : KeptBut (λ (k : ℕ). named (k / L.size) (k % L.size)) ws now
  kept-over = record {
    size = size;
    word = λ k q.
        ⊎_elim (λ (h : k < length ws). inside k h q)
        (λ (h : length ws ≤ k). get_or-eq_default now (pos 0) {n = k} (omega (arith, size)) ∙ sym (get_or-eq_default ws (pos 0) {n = k} h))
        (lt-or-le k (length ws));
  }

-- ---- edges
-- of edge i the word in place j is the same in both tables, unless it is named
abbrev pub SameEdges : (ℕ → ℕ → Bool) → Axis → Axis → Type 0
SameEdges named old new = (i j : ℕ) → named i j ≡ false → word_at (edge_words_at new i) j ≡ word_at (edge_words_at old i) j

edges-kept : (named : ℕ → ℕ → Bool) (ws : List ℤ) (dim : Dimension) (major : Direction) (new : Axis) → edges_shown ws ≡ true → edges_in ws ≤ most_edges
    → SameEdges named (flat_axis ws dim major) new → KeptBut (of_edges named) ws (edges_over ws new)
unfolding edges_over
edges-kept named ws dim major new shown few same =
    kept-over edge_codec named ws (edge_at new) (edges-shown ws shown few)
    (λ i j h q. same i j q ∙ ap (λ (e : Edge). word_at (edge_words e) j) (edge-read ws dim major i h few))

-- words that are those of their fields, decoded and encoded, are the words
pub edges-again : (ws : List ℤ) (dim : Dimension) (major : Direction) → edges_shown ws ≡ true → edges_in ws ≤ most_edges
    → edges_over ws (flat_axis ws dim major) ≡ ws
unfolding edges_over
edges-again ws dim major shown few =
    let w = edges-shown ws shown few in sym (table-over edge_codec ws ws (edge_at (flat_axis ws dim major)) w w refl (λ i h. edge-read ws dim major i h few))

-- ---- segments
abbrev pub SameSegments : (ℕ → ℕ → Bool) → Segments → Segments → Type 0
SameSegments named old new = (i j : ℕ) → i < old.len → named i j ≡ false → word_at (segment_words_at new i) j ≡ word_at (segment_words_at old i) j

-- as many segments are read as the list has
segments-len : (ws : List ℤ) → (flat_segments ws).len ≡ segments_in ws
unfolding flat_segments segments_run
segments-len ws = refl

pub segments-kept : (named : ℕ → ℕ → Bool) (ws : List ℤ) (new : Segments) → segments_shown ws ≡ true → segments_in ws ≤ most_segments
    → SameSegments named (flat_segments ws) new
    → KeptBut (of_segments named) ws (segments_over ws new)
unfolding segments_over
segments-kept named ws new shown few same =
    kept-over segment_codec named ws (segment_at new) (segments-shown ws shown few)
    (λ i j h q. same i j (omega (arith, h, segments-len ws)) q ∙ ap (λ (s : Segment). word_at (segment_words s) j) (segment-read ws i h few))

pub segments-again : (ws : List ℤ) → segments_shown ws ≡ true → segments_in ws ≤ most_segments → segments_over ws (flat_segments ws) ≡ ws
unfolding segments_over
segments-again ws shown few =
    let w = segments-shown ws shown few in sym (table-over segment_codec ws ws (segment_at (flat_segments ws)) w w refl (λ i h. segment-read ws i h few))

-- ---- a call
-- answer 0 is the call's own, behind tests that hold
pub passed : (tests : List Test) (answer : ℕ) → 0 ≡ refused_or tests answer → (refusal tests ≡ 0) × (answer ≡ 0)
unfolding refused_or
passed tests answer e = by (refusal tests) refl e
  where
    by : (k : ℕ) → refusal tests ≡ k → 0 ≡ answered k (λ (i : ℕ). i) answer → (refusal tests ≡ 0) × (answer ≡ 0)
    by zero q e = (q, sym e)
    by (suc k) q e = absurd (omega arith)

-- a refusal hands back nothing
pub not_new : {A : Type 0} (k : ℕ) (new old : A) → cond (eqb (suc k) 0) new old ≡ old
not_new k new old = rw (ne_eqb (suc k) 0 (λ e. omega arith))

-- over edges: with a refusal every word stays
pub edges-left :
    (named : ℕ → ℕ → Bool) (ws : List ℤ) (others : Bool) (dim : Dimension) (major : Direction) (new : Axis) {answer r : ℕ} {now : List ℤ}
    → Lent (edges_front ws others) answer (edges_over ws new) ws r now → (answer ≡ 0 → SameEdges named (flat_axis ws dim major) new)
    → KeptBut (of_edges named) ws now
unfolding edges_front
edges-left named ws others dim major new {answer} {r} {now} l same = by r l.number l.held
  where
    by : (r : ℕ) → r ≡ refused_or (edges_front ws others) answer → now ≡ cond (eqb r 0) (edges_over ws new) ws → KeptBut (of_edges named) ws now
    by zero e h =
        let p = passed (edges_front ws others) answer e in
        let t = all_hold (edges_front ws others) refl p.0 in
        subst (KeptBut (of_edges named) ws) (sym h)
        (edges-kept named ws dim major new (and_first (edges_shown ws) others t.1.1.0) (leb-true (edges_in ws) most_edges t.1.0) (same p.1))
    by (suc k) e h = subst (KeptBut (of_edges named) ws) (sym (h ∙ not_new k (edges_over ws new) ws)) (all-kept (of_edges named) ws)

-- over segments
pub segments-left :
    (named : ℕ → ℕ → Bool) (ws : List ℤ) (room others : Bool) (new : Segments) {answer r : ℕ} {now : List ℤ}
    → Lent (segments_front ws room others) answer (segments_over ws new) ws r now → (answer ≡ 0 → SameSegments named (flat_segments ws) new)
    → KeptBut (of_segments named) ws now
unfolding segments_front
segments-left named ws room others new {answer} {r} {now} l same = by r l.number l.held
  where
    by : (r : ℕ) → r ≡ refused_or (segments_front ws room others) answer → now ≡ cond (eqb r 0) (segments_over ws new) ws → KeptBut (of_segments named) ws now
    by zero e h =
        let p = passed (segments_front ws room others) answer e in
        let t = all_hold (segments_front ws room others) refl p.0 in
        subst (KeptBut (of_segments named) ws) (sym h)
        (segments-kept named ws new (and_first (segments_shown ws) others t.1.1.0) (leb-true (segments_in ws) most_segments t.1.0) (same p.1))
    by (suc k) e h = subst (KeptBut (of_segments named) ws) (sym (h ∙ not_new k (segments_over ws new) ws)) (all-kept (of_segments named) ws)

-- of several things lent, the first
pub lent-first :
    {A B : Type 0} {tests : List Test} {answer : ℕ} {new old now : A} {new' old' now' : B} {r : ℕ}
    → Lent {A = A × B} tests answer (new, new') (old, old') r (now, now')
    → Lent tests answer new old r now
lent-first {A} {B} {tests} {answer} {new} {old} {now} {new'} {old'} {now'} {r} l = record { number = l.number; held = by (eqb r 0) l.held }
  where
    by : (t : Bool) → ◌≡◌ {A = A × B} (now, now') (cond t (new, new') (old, old')) → now ≡ cond t new old
    by true e = ap (λ (p : A × B). p.0) e
    by false e = ap (λ (p : A × B). p.0) e
