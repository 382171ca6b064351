-- The outcome of the call: for refused tables, for accepted ones, and what is handed back.
use mathlib.Core.Path.{◌≡◌, refl, sym, ap, subst, ◌∙◌}
use mathlib.Core.Bool.{Bool, true}
use mathlib.Core.List.{List, []}
use Prim.Native.Nat.{ℕ, zero, suc, ◌≤◌, ◌<◌, min}
use native.Mathlib.Omega.{arith}
use borrow.Author.Tests.{leb-true, ltb-true}
use lib.Dec.{ltb}
use lib.ListN.{length}
use Rattle.refusals.specs.Refusal.{refusal, answered}
use Rattle.refusals.proofs.Tests.{all_hold, no-refusal}
use Rattle.axis.specs.declared.edge.Axis.{Axis}
use Rattle.axis.specs.declared.edge.Edge.{Edge}
use Rattle.axis.specs.declared.segment.Segment.{Segment}
use Rattle.axis.specs.declared.segment.Segments.{Segments}
use Rattle.axis.specs.Edge.{edge_at}
use Rattle.axis.specs.Refusals.{link_holds, edge_numbers, edges_numbers, segment_numbers, segments_numbers, segments_nexts, segment_edge}
use Rattle.axis.specs.Handed.{TypedAxis, Typed, EdgesAccepted, SegmentsAccepted}
use Rattle.axis.specs.Limits.{most_edges, most_segments}
use Rattle.axis.specs.Segment.{segment_at}
use Rattle.axis.proofs.Acceptance.{link-below}
use Rattle.axis.proofs.Accepting.{every_holds}
use Rattle.axis.proofs.Tests.{every-at}
use Rattle.mend.specs.Following.{count}
use Rattle.turn.specs.Indices.{segments_edges}
use Rattle.axis.specs.Ring.{is_of, Sound}
use Rattle.mend.specs.Mended.{mended_axis, mended_segments}
use Rattle.mend.specs.Altered.{Alteration, alterations, most_altered}
use Rattle.mend.specs.Mend.{edges_named, mending_tests, Mended, mend}
use Rattle.mend.proofs.Places.{mended-segment-at, mended-edge-at}
use Rattle.mend.proofs.Sound.{Mendable, edge_same, own_same}
use Rattle.mend.proofs.Twice.{Good, segments-good, axis-good, mended-good}
use Rattle.turn.specs.Turning.{turning_tests}
use Rattle.turn.proofs.Calls.{not-refused}
use Rattle.mend.proofs.Indices.{segments-indexed, nexts-indexed, edges-of-segments, edges-indexed, segments-of-edges}
use Rattle.mend.proofs.Empty.{was-good}
use Rattle.mend.proofs.Lists.{few-altered, none-altered}

module _ (axis : Axis) (t : Segments) where
  pub refused : (k : ℕ) → refusal (mending_tests axis t) ≡ suc k → mend axis t ≡ record { answer = suc k; axis = axis; segments = t; altered = [] }
  unfolding mend
  refused k e = rw e

  pub when-accepted : refusal (mending_tests axis t) ≡ 0
      → mend axis t ≡ record {
        answer =
            0;
        axis = mended_axis axis t;
        segments = mended_segments axis t;
        altered = alterations axis t (mended_axis axis t) (mended_segments axis t);
      }
  unfolding mend
  when-accepted e = rw e

  -- the answer 0 says that no test refuses
  pub accepted : (mend axis t).answer ≡ 0 → refusal (mending_tests axis t) ≡ 0
  unfolding mend
  accepted e = by (refusal (mending_tests axis t)) refl e
    where
      by : (k : ℕ) → refusal (mending_tests axis t) ≡ k
          → (answered {A = Mended} k (λ (j : ℕ). record { answer = j; axis = axis; segments = t; altered = [] })
          (record {
            answer = 0;
            axis = mended_axis axis t;
            segments = mended_segments axis t;
            altered = alterations axis t (mended_axis axis t)
                (mended_segments axis t);
          })).answer ≡ 0
          → refusal (mending_tests axis t) ≡ 0
      by zero q e = q
      by (suc k) q e = absurd (omega arith)

  good-outcome : refusal (mending_tests axis t) ≡ 0 → Good axis t → mend axis t ≡ record { answer = 0; axis = axis; segments = t; altered = [] }
  good-outcome e g =
      when-accepted e
      ∙ (λ j. record {
        answer = 0;
        axis = axis-good axis t g j;
        segments = segments-good axis t g j;
        altered = alterations axis t (axis-good axis t g j) (segments-good axis t g j);
      })
      ∙ (λ j. record { answer = 0; axis = axis; segments = t; altered = none-altered axis t j })

-- ---- what an accepted call hands back
module _ (axis : Axis) (t : Segments) (w : TypedAxis axis) (v : Typed t) (e : refusal (mending_tests axis t) ≡ 0) where
  few-segments : t.len ≤ most_segments
  few-segments = leb-true t.len most_segments (all_hold (mending_tests axis t) refl e).0

  few-edges : axis.len ≤ most_edges
  few-edges = leb-true axis.len most_edges (all_hold (mending_tests axis t) refl e).1.0

  mendable : Mendable axis t
  unfolding segments_edges segment_edge edges_named
  mendable =
      let h = all_hold (mending_tests axis t) refl e in
      record {
        segments_whole = omega (arith, v.places, few-segments);
        edges_whole = omega (arith, w.places, few-edges);
        few = few-segments;
        to_edges =
            λ (i : ℕ) (l : i < t.len). link-below axis.len (segment_at t i).edge
            (every-at _ i (min t.len most_segments) h.1.1.1.1.0 (omega (arith, few-segments)));
        named =
            λ (k : ℕ) (l : k < axis.len). ltb-true 0 (count (is_of t k) t.len)
            (every-at _ k (min axis.len most_edges) h.1.1.1.1.1.0 (omega (arith, few-edges)));
      }

  -- every index is below its list, and every ring is sound
  pub handed-on : Good (mended_axis axis t) (mended_segments axis t)
  handed-on = mended-good axis t mendable

  -- the list fits its places
  pub fits : length (alterations axis t (mended_axis axis t) (mended_segments axis t)) ≤ most_altered
  fits = few-altered axis t (mended_axis axis t) (mended_segments axis t) few-segments few-edges

  -- an axis with nothing to mend comes back as it was, beside an empty list
  pub sound-axis : Good axis t → mend axis t ≡ record { answer = 0; axis = axis; segments = t; altered = [] }
  sound-axis g = good-outcome axis t e g

  -- and an empty list comes from such an axis alone
  pub nothing-altered : alterations axis t (mended_axis axis t) (mended_segments axis t) ≡ [] → Good axis t
  nothing-altered none = was-good axis t mendable none

  -- ---- mended again
  segments-in-range : segments_numbers (mended_segments axis t) ≡ true
  unfolding mended_segments segments_numbers segment_numbers
  segments-in-range =
      every_holds _ (min t.len most_segments)
      (λ (i : ℕ) (l : i < min t.len most_segments).
      ap segment_numbers (mended-segment-at axis t mendable.segments_whole i (omega arith))
      ∙ every-at _ i (min t.len most_segments) (all_hold (mending_tests axis t) refl e).1.1.0 l)

  edges-in-range : edges_numbers (mended_axis axis t) ≡ true
  unfolding mended_axis edges_numbers edge_numbers
  edges-in-range =
      every_holds _ (min axis.len most_edges)
      (λ (k : ℕ) (l : k < min axis.len most_edges).
      ap edge_numbers (mended-edge-at axis t mendable.edges_whole k (omega arith))
      ∙ every-at _ k (min axis.len most_edges) (all_hold (mending_tests axis t) refl e).1.1.1.0 l)

  to-edges-again : segments_edges axis.len (mended_segments axis t) ≡ true
  unfolding mended_segments segments_edges segment_edge
  to-edges-again =
      every_holds _ (min t.len most_segments)
      (λ (i : ℕ) (l : i < min t.len most_segments).
      ap (link_holds axis.len) (edge_same axis t mendable i) ∙ every-at _ i (min t.len most_segments)
      (all_hold (mending_tests axis t) refl e).1.1.1.1.0 l)

  named_again : edges_named (mended_axis axis t) (mended_segments axis t) ≡ true
  unfolding mended_axis mended_segments edges_named
  named_again =
      every_holds _ (min axis.len most_edges)
      (λ (k : ℕ) (l : k < min axis.len most_edges).
      ap (λ (own : ℕ → Bool). ltb 0 (count own t.len)) (own_same axis t mendable k)
      ∙ every-at _ k (min axis.len most_edges) (all_hold (mending_tests axis t) refl e).1.1.1.1.1.0 l)

  pub taken-again : refusal (mending_tests (mended_axis axis t) (mended_segments axis t)) ≡ 0
  unfolding mended_axis mended_segments
  taken-again =
      let h = all_hold (mending_tests axis t) refl e in
      no-refusal (mending_tests (mended_axis axis t) (mended_segments axis t))
      (h.0, (h.1.0, (segments-in-range, (edges-in-range, (to-edges-again, (named_again, refl))))))

  -- mended twice is mended once, and nothing is listed
  pub twice : mend (mended_axis axis t) (mended_segments axis t) ≡ record { answer = 0; axis = mended_axis axis t; segments = mended_segments axis t; altered = [] }
  twice = good-outcome (mended_axis axis t) (mended_segments axis t) taken-again handed-on

  -- what is handed on passes the tests of every call over edges, of linking and of building
  pub edges-handed-on : EdgesAccepted (mended_axis axis t)
  unfolding mended_axis
  edges-handed-on = record {
    short = (all_hold (mending_tests axis t) refl e).1.0;
    indexed = edges-indexed (mended_axis axis t) (mended_segments axis t) handed-on;
    in_range = edges-in-range;
  }

  pub segments-handed-on : SegmentsAccepted (mended_segments axis t)
  unfolding mended_segments
  segments-handed-on = record {
    short = (all_hold (mending_tests axis t) refl e).0;
    indexed = segments-indexed (mended_axis axis t) (mended_segments axis t) handed-on;
    in_range = segments-in-range;
  }

  pub nexts-handed-on : segments_nexts (mended_segments axis t) ≡ true
  nexts-handed-on = nexts-indexed (mended_axis axis t) (mended_segments axis t) handed-on

  -- and every index test that document 01 has: the converter takes it
  pub turns : refusal (turning_tests (mended_axis axis t) (mended_segments axis t)) ≡ 0
  turns =
      not-refused (mended_axis axis t) (mended_segments axis t)
      (record {
        edges = edges-handed-on;
        segments = segments-handed-on;
        nexts = nexts-handed-on;
        to_edges = edges-of-segments (mended_axis axis t) (mended_segments axis t) handed-on;
        to_segments = segments-of-edges (mended_axis axis t) (mended_segments axis t) handed-on;
      })
