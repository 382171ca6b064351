-- The call by its tests and its steps.
use mathlib.Core.Path.{◌≡◌, refl, sym, ap, ◌∙◌}
use mathlib.Core.Bool.{Bool}
use mathlib.Core.List.{List}
use Prim.Native.Nat.{ℕ, ◌%◌, ◌≤◌, ◌<◌}
use native.Mathlib.Omega.{arith}
use lib.IntN.{ℤ, pos}
use Rattle.refusals.specs.Refusal.{refusal, answered}
use Rattle.axis.specs.declared.edge.Axis.{Axis}
use Rattle.axis.specs.declared.kinds.Dimension.TheVariants as Dimensions
use Rattle.axis.specs.declared.segment.Segment.{Segment}
use Rattle.axis.specs.declared.segment.Segments.{Segments}
use Rattle.axis.specs.Limits.{most_edges, most_segments}
use Rattle.pack.specs.Sets.{number_at}
use Rattle.pack.specs.Listing.{Placed, Numbered}
use Rattle.pack.specs.Kept.{KeptAre}
use Rattle.pack.specs.Packed.{kept_count, packed_segments, packed_axis, renumbered, moved_segments, cleared, Renumbers, EdgesHold}
use Rattle.pack.specs.Call.{packing_tests, Packed, beside, pack, Holding}
use Rattle.pack.proofs.Calls.{taken, all-counted, placed}
use Rattle.pack.proofs.Edges.{edges-packed}
use Rattle.pack.proofs.Places.{kept-few, packed-len}
use Rattle.pack.proofs.Stages.{renumbers, packed-is}
use Rattle.words.specs.Edge.{edges_in, edges_over}
use Rattle.words.specs.Segment.{segments_in, flat_segments, segments_over}
use Rattle.words.proofs.Typed.{flat-typed}
use Rattle.words_call.specs.Lent.{refused_or, edges_of}
use Rattle.words_edge.specs.Whole as E
use Rattle.words_edge.proofs.Became.{became-over as edges-over}
use Rattle.words_edge.proofs.Wholes.{shown-whole, edges-len, axis-long}
use Rattle.words_edge_test.proofs.Calls.{lent-refused, lent-done}
use Rattle.words_segment.specs.Whole as S
use Rattle.words_segment.proofs.Became.{count_in, became-then, became-over}
use Rattle.words_segment.proofs.Wholes.{shown-whole as segments_whole, segments-len}
use Rattle.turn_words.specs.Lent.{turn_front}
use Rattle.turn_words.proofs.Lending.{Shown, all_shown}
use Rattle.pack_words.specs.Pack.{packed_words, PackedBoth, PackedLent}

-- ---- the steps
module _ (ws es : List ℤ) (w : S.Whole ws) (v : E.Whole es) (h : Holding (edges_of es) (flat_segments ws)) (kept : List Bool) (new : List ℕ) (count : ℕ)
    (k : KeptAre (flat_segments ws) kept) (n : Numbered kept new count) where
  abbrev T : Segments
  T = flat_segments ws

  pub new-numbers : Renumbers T new
  new-numbers = renumbers T kept new count h.segments.few k n

  pub is-count : count ≡ kept_count T
  is-count = all-counted T kept new count h.segments k n

  pub new-places : Placed new
  new-places = placed kept new count n

  pub fewer : {w1 : List ℤ} → S.Became moved_segments ws w1 → S.Whole w1 × (count ≤ segments_in w1)
  fewer a = (a.whole, omega (arith, is-count, kept-few T, count_in a, segments-len ws))

  pub ends-hold : EdgesHold (edges_of es) most_segments
  ends-hold = record {
    few = h.edges.few;
    first = λ i l. omega (arith, h.edges.first i l, h.segments.few);
    last = λ i l. omega (arith, h.edges.last i l, h.segments.few);
  }

  -- a list is written over by the places of a table alone
  over-places : (t u : Segments) → t.segments ≡ u.segments → segments_over ws t ≡ segments_over ws u
  unfolding segments_over
  over-places t u e = ap (λ (ss : List Segment). segments_over ws (record { segments = ss; len = t.len })) e

  pub packs-both : {w1 w2 e1 : List ℤ} → S.Became moved_segments ws w1 → S.Became (cleared count) w1 w2 → E.Became (renumbered (number_at new)) es e1
      → PackedBoth ws es count w2 e1
  packs-both a b c = record {
    segments =
        became-over {f = λ (t : Segments). cleared count (moved_segments t)} w (became-then a b)
        ∙ ap (λ (m : ℕ). segments_over ws (cleared m (moved_segments T))) is-count
        ∙ over-places (cleared (kept_count T) (moved_segments T)) (packed_segments T)
        (packed-is T (omega (arith, segments-len ws, (flat-typed ws).places, w.few)));
    edges =
        edges-over v c Dimensions.Horizontal
        ∙ ap (edges_over es) (edges-packed T (edges_of es) new (omega (arith, edges-len es, axis-long es Dimensions.Horizontal, v.few)) h.edges new-numbers);
    counted = is-count;
  }

-- ---- the call
module _ (ws es : List ℤ) (old : ℤ) {k : ℕ} (f : k ≡ refusal (turn_front ws es)) (none : k ≤ 0) where
  abbrev A : Axis
  A = edges_of es

  abbrev B : Segments
  B = flat_segments ws

  in_front : refusal (turn_front ws es) ≡ 0
  in_front = let z : k ≡ 0 = omega arith in sym f ∙ z

  shown : Shown ws es
  shown = all_shown ws es in_front

  -- what the tests behind those in front need
  pub few-both : (segments_in ws ≤ most_segments) × (edges_in es ≤ most_edges)
  few-both = (shown.few-segments, shown.few-edges)

  module _ {r : ℕ} (e : r ≡ refusal (packing_tests A B)) where
    numbered : r ≡ refused_or (turn_front ws es) (refusal (packing_tests A B))
    unfolding refused_or
    numbered = e ∙ ap (λ (j : ℕ). answered j (λ (i : ℕ). i) (refusal (packing_tests A B))) (sym in_front)

    -- a test refuses
    pub refuses : 0 < r → PackedLent ws es old r (ws, (es, old))
    unfolding pack
    refuses h =
        lent-refused (turn_front ws es) (refusal (packing_tests A B)) numbered (λ (x : Packed). x.answer) (packed_words ws es) (packing_tests A B) (beside A B)
        (beside (packed_axis B A) (packed_segments B) 0) (λ (j : ℕ). refl) refl (λ q. refl) h

    -- none does: what the steps need, and what they make
    module _ (h : r ≤ 0) where
      pub pack-ready : S.Whole ws × E.Whole es × Holding A B
      pack-ready =
          let z : r ≡ 0 = omega arith in (
            segments_whole ws shown.segments-shown shown.few-segments,
            shown-whole es shown.edges-shown shown.few-edges,
            (taken A B (sym e ∙ z)).holding,
          )

      pub packs : {count : ℕ} {ws' es' : List ℤ} {now : ℤ} → PackedBoth ws es count ws' es' → now ≡ pos (count % 65536)
          → PackedLent ws es old 0 (ws', (es', now))
      unfolding pack
      packs {count} {ws'} {es'} {now} b q =
          let small : count % 65536 ≡ count = omega (arith, b.counted, kept-few B, segments-len ws, shown.few-segments) in
          let c = q ∙ ap pos (small ∙ b.counted ∙ sym (packed-len B)) in
          lent-done (turn_front ws es) (refusal (packing_tests A B)) numbered (λ (x : Packed). x.answer) (packed_words ws es) (packing_tests A B) (beside A B)
          (beside (packed_axis B A) (packed_segments B) 0) (λ (j : ℕ). refl) refl (λ x. refl) h (λ i. (b.segments i, (b.edges i, c i)))
