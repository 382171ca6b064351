-- What the call leaves: with a refusal everything as it was; of the edges every word but those of first and last; and how many segments there are.
use Rattle.std.specs.Prelude.{Result}
use mathlib.Core.Path.{◌≡◌, refl, ap, ◌∙◌}
use mathlib.Core.Bool.{Bool, true, false, cond, ◌&&◌}
use mathlib.Core.List.{List, [], ◌∷◌}
use mathlib.Core.Logic.{⊎_elim}
use Prim.Native.Nat.{ℕ, zero, suc, ◌%◌, ◌≤◌, ◌<◌}
use native.Mathlib.Omega.{arith}
use borrow.Author.Tests.{le-leb}
use lib.Dec.{eqb}
use lib.IntN.{ℤ, pos}
use lib.ListN.{length, set}
use Rattle.signed.proofs.Signed.{lt-or-le}
use Rattle.refusals.specs.declared.order.Refusal.{Refusal}
use Rattle.refusals.specs.Refusal.{refusal}
use Rattle.refusals.specs.Outcome.{answer_of}
use Rattle.refusals.proofs.Tests.{and_second, all_hold, no-refusal}
use Rattle.axis.specs.declared.edge.Edge.{Edge}
use Rattle.axis.specs.declared.kinds.Dimension.TheVariants as Dimensions
use Rattle.axis.specs.declared.kinds.Direction.TheVariants as Directions
use Rattle.axis.specs.Edge.{edge_at}
use Rattle.axis.specs.Limits.{most_edges}
use Rattle.pack.specs.Kept.{new_index}
use Rattle.pack.specs.Packed.{packed_edge, kept_count, packed_axis, packed_segments}
use Rattle.pack.specs.Call.{Packed, beside}
use Rattle.pack.proofs.Determined.{when-accepted, accepted}
use Rattle.pack.proofs.Places.{kept-few, packed-len, packed-edge-at, left-edge-at}
use Rattle.words.specs.Word.{word_at}
use Rattle.words.specs.Edge.{first_place, last_place, edges_in, edge_words, edges_over}
use Rattle.words.specs.Segment.{segment_size, segments_in, flat_segments}
use Rattle.words_shape.specs.Shape.{edges_shown}
use Rattle.words_call.specs.Kept.{KeptBut, of_edges, is_one_of}
use Rattle.words_call.specs.Lent.{refused_or, edges_front, edges_of}
use Rattle.words_call.proofs.Determined.{lent-determined, lent-determined-result}
use Rattle.words_call.proofs.Kept.{SameEdges, edges-left, passed, not_new}
use Rattle.words_call.proofs.Moved.{none_of, word-beside}
use Rattle.words_edge.proofs.Wholes.{edges-len, axis-long}
use Rattle.words_segment.proofs.Wholes.{segments-len}
use Rattle.turn_words.specs.Lent.{turn_front}
use Rattle.turn_words.proofs.Lending.{Shown, all_shown}
use Rattle.pack_words.specs.Pack.{packed, packed_words, PackedLent}

module _ (ws es : List ℤ) (count : ℤ) where
  -- two outcomes that the promise of `lend_packing` allows coincide
  pub determined : {r r' : ℕ} {now now' : List ℤ × (List ℤ × ℤ)} → PackedLent ws es count r now → PackedLent ws es count r' now' → (r ≡ r') × (now ≡ now')
  determined a b = lent-determined a b

  -- and so do two results
  pub determined-result : {r r' : Result (Unit {0}) Refusal} {now now' : List ℤ × (List ℤ × ℤ)}
      → PackedLent ws es count (answer_of r) now → PackedLent ws es count (answer_of r') now' → (r ≡ r') × (now ≡ now')
  determined-result {r} {r'} a b = lent-determined-result {r = r} {r' = r'} a b

  -- a refusal leaves segments, edges and the count as they were
  pub refused-left : {r : ℕ} {now : List ℤ × (List ℤ × ℤ)} → PackedLent ws es count r now → 0 < r → now ≡ (ws, (es, count))
  refused-left {r} {now} l h = by r h l.held
    where
      by : (r : ℕ) → 0 < r → now ≡ cond (eqb r 0) (packed_words ws es (packed ws es)) (ws, (es, count)) → now ≡ (ws, (es, count))
      by zero h e = absurd (omega arith)
      by (suc k) h e = e ∙ not_new k (packed_words ws es (packed ws es)) (ws, (es, count))

  -- ---- an accepted call
  module _ {now : List ℤ × (List ℤ × ℤ)} (l : PackedLent ws es count 0 now) where
    done : (refusal (turn_front ws es) ≡ 0) × ((packed ws es).answer ≡ 0)
    done = passed (turn_front ws es) (packed ws es).answer l.number

    shown : Shown ws es
    shown = all_shown ws es done.0

    outcome : packed ws es ≡ beside (packed_axis (flat_segments ws) (edges_of es)) (packed_segments (flat_segments ws)) 0
    outcome = when-accepted (edges_of es) (flat_segments ws) (accepted (edges_of es) (flat_segments ws) done.1)

    -- the count is that of the kept segments, and at most the old one
    pub counted : now.1.1 ≡ pos (kept_count (flat_segments ws))
    counted =
        ap (λ (p : List ℤ × (List ℤ × ℤ)). p.1.1) l.held ∙ ap (λ (x : Packed). pos x.segments.len) outcome ∙ ap pos (packed-len (flat_segments ws))

    pub no_more : kept_count (flat_segments ws) ≤ segments_in ws
    no_more = omega (arith, kept-few (flat_segments ws), segments-len ws)

    -- of the edges the words of first and last can change, and no other
    edge-word : (f : ℕ → ℕ) (e : Edge) (j : ℕ) → is_one_of (first_place ∷ last_place ∷ []) j ≡ false
        → word_at (edge_words (packed_edge f e)) j ≡ word_at (edge_words e) j
    unfolding edge_words
    edge-word f e j h =
        let a = none_of first_place (last_place ∷ []) j h in
        let b = none_of last_place [] j a.1 in
        word-beside (set (edge_words e) first_place (pos (f e.first))) last_place j (pos (f e.last)) b.0
        ∙ word-beside (edge_words e) first_place j (pos (f e.first)) a.0

    places : (edges_of es).len ≤ length (edges_of es).edges
    places = omega (arith, edges-len es, axis-long es Dimensions.Horizontal, shown.few-edges)

    same : SameEdges (λ (i : ℕ). is_one_of (first_place ∷ last_place ∷ [])) (edges_of es) (packed_axis (flat_segments ws) (edges_of es))
    same i j h =
        ⊎_elim
        (λ (b : i < (edges_of es).len).
        ap (λ (e : Edge). word_at (edge_words e) j) (packed-edge-at (flat_segments ws) (edges_of es) places i b)
        ∙ edge-word (new_index (flat_segments ws)) (edge_at (edges_of es) i) j h)
        (λ (b : (edges_of es).len ≤ i). ap (λ (e : Edge). word_at (edge_words e) j) (left-edge-at (flat_segments ws) (edges_of es) places i b))
        (lt-or-le i (edges_of es).len)

    -- the tests in front of a call over edges alone hold
    edges-pass : refusal (edges_front es true) ≡ 0
    unfolding edges_front turn_front
    edges-pass =
        let h = all_hold (turn_front ws es) refl done.0 in
        no-refusal (edges_front es true) (
          and_second (eqb (length ws % segment_size) 0) _ h.0,
          (le-leb (edges_in es) most_edges shown.few-edges, (both (edges_shown es) shown.edges-shown, refl)),
        )
      where
        both : (b : Bool) → b ≡ true → (b && true) ≡ true
        both b e = rw e

    numbered : 0 ≡ refused_or (edges_front es true) 0
    unfolding refused_or
    numbered = rw edges-pass

    pub edges-kept : KeptBut (of_edges (λ (i : ℕ). is_one_of (first_place ∷ last_place ∷ []))) es now.1.0
    edges-kept =
        edges-left (λ (i : ℕ). is_one_of (first_place ∷ last_place ∷ [])) es true Dimensions.Horizontal Directions.None (packed_axis (flat_segments ws) (edges_of es))
        (record { number = numbered; held = ap (λ (p : List ℤ × (List ℤ × ℤ)). p.1.0) l.held ∙ ap (λ (x : Packed). edges_over es x.axis) outcome })
        (λ e. same)
