-- What the lists of numbers say of the axis.
use mathlib.Core.Path.{◌≡◌, refl, sym, ap, subst, ◌∙◌}
use mathlib.Core.Bool.{Bool, true, false}
use mathlib.Core.List.{List}
use Prim.Native.Nat.{ℕ, ◌≤◌, ◌<◌, min}
use native.Mathlib.Omega.{arith}
use borrow.Author.Tests.{ltb-true}
use lib.ListN.{length}
use lib.IntN.{ℤ}
use Rattle.axis.specs.declared.edge.Axis.{Axis}
use Rattle.axis.specs.declared.kinds.Dimension.TheVariants as Dimensions
use Rattle.axis.specs.declared.kinds.Direction.TheVariants as Directions
use Rattle.axis.specs.declared.segment.Segments.{Segments}
use Rattle.axis.specs.Limits.{most_edges, most_segments}
use Rattle.axis.specs.Refusals.{every, segment_edge}
use Rattle.axis.specs.Ring.{is_of}
use Rattle.axis.specs.Segment.{segment_at}
use Rattle.axis.proofs.Acceptance.{link-below}
use Rattle.axis.proofs.Sound.{never}
use Rattle.axis.proofs.Tests.{every-at}
use Rattle.turn.specs.Indices.{segments_edges}
use Rattle.mend.specs.Following.{count}
use Rattle.mend.specs.Mend.{edges_named}
use Rattle.mend.specs.Plan.{Gathered, Told}
use Rattle.mend.specs.Rebuilt.{Tallied, Led}
use Rattle.mend.proofs.Plan.{named-told, segments-planned, axis-planned, list-planned}
use Rattle.mend.proofs.Sound.{Mendable}
use Rattle.words.specs.Edge.{edges_in}
use Rattle.words.specs.Segment.{segments_in, flat_segments}
use Rattle.words.proofs.Typed.{flat-typed}
use Rattle.words_call.specs.Lent.{edges_of}
use Rattle.words_edge.specs.Whole as Edges
use Rattle.words_edge.proofs.Wholes.{edges-len, axis-long}
use Rattle.words_segment.specs.Whole as Segs
use Rattle.words_segment.proofs.Wholes.{segments-len}
use Rattle.mend_rings_words.specs.Followed.{FollowedTo}
use Rattle.mend_words.specs.Named.{is_named}
use Rattle.mend_words.specs.Mending.{Planned}
use Rattle.mend_rings_words.proofs.Follows.{followed-told}

module _ (ws es : List ℤ) (w : Segs.Whole ws) (v : Edges.Whole es) (to_edges : segments_edges (edges_in es) (flat_segments ws) ≡ true)
    (edges next counts lows highs : List ℕ)
    (g : Gathered (flat_segments ws) edges next) (a : Tallied edges (segments_in ws) counts lows highs) (r : Bool)
    (e : r ≡ every (is_named counts) (edges_in es)) where
  abbrev A : Axis
  A = edges_of es

  abbrev T : Segments
  T = flat_segments ws

  few : T.len ≤ most_segments
  few = omega (arith, segments-len ws, w.few)

  few-edges : A.len ≤ most_edges
  few-edges = omega (arith, edges-len es, v.few)

  tallied : Tallied edges T.len counts lows highs
  tallied = subst (λ (n : ℕ). Tallied edges n counts lows highs) (sym (segments-len ws)) a

  named : r ≡ edges_named A T
  named = e ∙ ap (every (is_named counts)) (sym (edges-len es)) ∙ named-told A T edges next few few-edges g counts lows highs tallied

  -- an edge has no segment
  pub not-planned : {edges' next' lows' highs' : List ℕ} {broken' : List Bool} → r ≡ false → Planned ws es false edges' next' broken' lows' highs'
  not-planned q = record { named = sym q ∙ named; segments = λ z. never z; axis = λ z. never z; listed = λ z. never z }

  -- every edge has one
  module _ (q : r ≡ true) (broken : List Bool) (seen next' : List ℕ) (f : FollowedTo es edges next (segments_in ws) counts (edges_in es) broken)
      (l : Led edges (segments_in ws) broken lows next seen next') where
    mendable : Mendable A T
    unfolding segments_edges segment_edge edges_named
    mendable = record {
      segments_whole = omega (arith, (flat-typed ws).places, few);
      edges_whole = omega (arith, axis-long es Dimensions.Horizontal, few-edges);
      few = few;
      to_edges = λ (i : ℕ) (h : i < T.len).
          link-below A.len (segment_at T i).edge
          (every-at _ i (min T.len most_segments) (ap (λ (m : ℕ). segments_edges m T) (edges-len es) ∙ to_edges) (omega (arith, few)));
      named =
          λ (k : ℕ) (h : k < A.len). ltb-true 0 (count (is_of T k) T.len) (every-at _ k (min A.len most_edges) (sym named ∙ q) (omega (arith, few-edges)));
    }

    told : Told A T broken
    told = followed-told es Dimensions.Horizontal Directions.None T edges next counts lows highs broken few v.few g tallied
        (subst (λ (n : ℕ). FollowedTo es edges next n counts (edges_in es) broken) (sym (segments-len ws)) f)

    led : Led edges T.len broken lows next seen next'
    led = subst (λ (n : ℕ). Led edges n broken lows next seen next') (sym (segments-len ws)) l

    pub planned : Planned ws es true edges next' broken seen highs
    planned = record {
      named = sym q ∙ named;
      segments = λ z. segments-planned A T edges next few few-edges g broken counts lows highs seen next' told tallied led mendable;
      axis = λ z. axis-planned A T edges next few few-edges g broken counts lows highs seen next' told tallied led mendable;
      listed = λ z. list-planned A T edges next few few-edges g broken counts lows highs seen next' told tallied led mendable;
    }
