-- What is read of a segment where its words stand, and what the tests say of it.
use Rattle.std.specs.Prelude.{Some}
use mathlib.Core.Path.{◌≡◌, refl, sym, ap, ◌∙◌}
use mathlib.Core.Bool.{Bool, true, false, not, ◌||◌}
use mathlib.Core.List.{List}
use mathlib.Core.Option.{Option, some, none}
use Prim.Native.Nat.{ℕ, ◌≤◌, ◌<◌}
use native.Mathlib.Omega.{arith}
use borrow.Author.Tests.{leb-true, ltb-true}
use lib.Dec.{leb}
use lib.IntN.{ℤ}
use Rattle.signed.proofs.Choices.{clash}
use Rattle.refusals.proofs.Tests.{and_first, and_second}
use Rattle.axis.specs.declared.segment.Segment.{Segment}
use Rattle.axis.specs.Edge.{edge_at}
use Rattle.axis.specs.Refusals.{segment_edge}
use Rattle.axis.specs.Segment.{segment_at}
use Rattle.axis.proofs.Acceptance.{within-between, link-below}
use Rattle.axis.proofs.Tests.{every-at}
use Rattle.weak_contour.specs.Limits.{most_coordinate}
use Rattle.weak_contour.specs.Contour.{Contour}
use Rattle.weak.specs.Weak.{ends_hold, contour_of}
use Rattle.weak.proofs.Contours.{contour-holds}
use Rattle.turn.specs.Indices.{segments_edges}
use Rattle.words.specs.Word.{word_at}
use Rattle.words.specs.Field.{index_of}
use Rattle.words.specs.Edge.{edges_in}
use Rattle.words.specs.Segment.{first_place, last_place, word_of_segment, segments_in, segment_from, flat_segments}
use Rattle.words_call.specs.Lent.{edges_of}
use Rattle.words_edge.proofs.Wholes.{edges-len}
use Rattle.words_segment.specs.Whole.{Whole}
use Rattle.words_segment.proofs.Wholes.{segment-in}
use Rattle.words_tables_test.proofs.Tables.{tested-segment}
use Rattle.edge_points.specs.EdgePoints.{moves, is_on, on_one, segment_points, segments_points, mover_holds, movers_hold}
use Rattle.edge_points.specs.Steps.{Mover}
use Rattle.edge_points_words.specs.Steps.{Accepted}

-- ---- words
module _ (ws : List ℤ) (i : ℕ) (w : Whole ws) (h : i < segments_in ws) where
  pub first_is : index_of (word_at ws (word_of_segment i first_place)) ≡ (segment_at (flat_segments ws) i).first
  unfolding segment_from
  first_is = sym (ap (λ (s : Segment). s.first) (segment-in ws i w h))

  pub last_is : index_of (word_at ws (word_of_segment i last_place)) ≡ (segment_at (flat_segments ws) i).last
  unfolding segment_from
  last_is = sym (ap (λ (s : Segment). s.last) (segment-in ws i w h))

  -- its edge is an edge
  pub edge-below : (m k : ℕ) → segments_edges m (flat_segments ws) ≡ true → (segment_at (flat_segments ws) i).edge ≡ Some k → k < m
  unfolding segments_edges segment_edge
  edge-below m k t e = (link-below m (segment_at (flat_segments ws) i).edge (every-at _ i _ t (tested-segment ws i w h))).at k e

-- ---- contours
-- p and q are on the contour of p, which is one of an outline of n points
pub record OnContour (es : List ℕ) (n p q : ℕ) : Type 0 where
  pub contour : Contour
  pub found : contour_of 0 es p ≡ some contour
  pub from_low : contour.start ≤ p
  pub from_high : p < contour.end
  pub to_low : contour.start ≤ q
  pub to_high : q < contour.end
  pub inside : contour.end ≤ n

on-contour : (es : List ℕ) (n p q : ℕ) → ends_hold 0 n es ≡ true → is_on (contour_of 0 es p) q ≡ true → OnContour es n p q
unfolding is_on
on-contour es n p q ends on = by (contour_of 0 es p) refl on
  where
    by : (k : Option Contour) → contour_of 0 es p ≡ k → is_on k q ≡ true → OnContour es n p q
    by none e t = absurd (clash false refl t)
    by (some k) e t =
        let c = contour-holds 0 n p es k (omega arith) ends e in
        record {
          contour = k;
          found = e;
          from_low = c.low;
          from_high = c.high;
          to_low = leb-true k.start q (and_first _ _ t);
          to_high = ltb-true q k.end (and_second (leb k.start q) _ t);
          inside = c.points;
        }

-- ---- what the tests say of a segment with an edge
or-second : (m b : Bool) → m ≡ true → (not m || b) ≡ true → b ≡ true
or-second true b e h = h
or-second false b e h = absurd (clash false refl e)

module _ (ws es : List ℤ) (alone : Bool) (n : ℕ) (ends : List ℕ) (a : Accepted ws es alone n ends) (i : ℕ) (h : i < segments_in ws) (k : ℕ)
    (e : (segment_at (flat_segments ws) i).edge ≡ Some k) where
  -- its edge is one of the list
  pub named : k < edges_in es
  named = edge-below ws i a.segments h (edges_in es) k a.to_edges e

  -- its first and its last are on one contour
  pub ends_on : OnContour ends n (segment_at (flat_segments ws) i).first (segment_at (flat_segments ws) i).last
  unfolding segments_points segment_points on_one
  ends_on =
      on-contour ends n _ _ a.contours
      (ap (segment_points ends (segment_at (flat_segments ws) i)) (sym e) ∙ every-at _ i _ a.on_one (tested-segment ws i a.segments h))

  -- where its edge moves points, both its positions are coordinates
  pub is-mover : moves alone (edge_at (edges_of es) k) ≡ true → Mover (edge_at (edges_of es) k)
  unfolding movers_hold mover_holds
  is-mover m =
      let t = ap (mover_holds alone (edges_of es)) (sym e) ∙ every-at _ i _ a.movers (tested-segment ws i a.segments h) in
      record {
        pos = within-between most_coordinate (edge_at (edges_of es) k).pos (or-second _ _ m t);
        opos = (a.in_range.edge k (omega (arith, named, edges-len es))).opos;
      }
