-- One record after the other.
use mathlib.Core.Path.{◌≡◌, refl, sym, ap, subst, ◌∙◌}
use mathlib.Core.Bool.{Bool, false}
use mathlib.Core.List.{List, [], ◌++◌}
use Prim.Native.Nat.{ℕ, zero, suc, ◌+◌, ◌*◌, ◌≤◌, ◌<◌}
use native.Mathlib.Numerals.{add-one}
use native.Mathlib.Omega.{arith}
use lib.ListN.{length, get_or, length-append}
use lib.IntN.{ℤ}
use Rattle.axis.specs.declared.edge.Axis.{Axis}
use Rattle.axis.specs.declared.edge.Edge.{Edge}
use Rattle.axis.specs.declared.kinds.Dimension.{Dimension}
use Rattle.axis.specs.declared.kinds.Dimension.TheVariants as Dimensions
use Rattle.axis.specs.declared.segment.Segment.{Segment}
use Rattle.axis.specs.declared.segment.Segments.{Segments}
use Rattle.axis.specs.Edge.{empty_edge, edge_at, put_edge}
use Rattle.axis.specs.Limits.{most_edges, most_segments}
use Rattle.axis.specs.Segment.{empty_segment, segment_at, put_segment}
use Rattle.mend.specs.Altered.{Alteration, in_order, of_segment, of_edge, most_altered}
use Rattle.mend.specs.Plan.{planned_segment, segment_by, planned_edge, edge_by, planned_segments, planned_axis, segments_listed, edges_listed}
use Rattle.mend.proofs.Lists.{segment-few, edge_few, segments-few, edges_few}
use Rattle.mend.proofs.Places.{up_to, left_at, one_written, all-written}
use Rattle.words.specs.Edge.{edges_in}
use Rattle.words.specs.Segment.{segments_in, flat_segments}
use Rattle.words.proofs.Typed.{flat-typed}
use Rattle.words_call.specs.Lent.{edges_of}
use Rattle.words_edge.specs.Whole as Edges
use Rattle.words_edge.proofs.Wholes.{len-in, axis-long}
use Rattle.words_edge.proofs.Became as OfEdges
use Rattle.words_segment.specs.Whole as Segs
use Rattle.words_segment.proofs.Wholes.{segments-len}
use Rattle.words_segment.proofs.Became as OfSegments
use Rattle.words.proofs.Became.{count_in}
use Rattle.mend_amend_words.specs.Listing.{alteration_size, Listed}
use Rattle.mend_amend_words.specs.Amended.{AmendedSegment, AmendedEdge, AmendedSegments, AmendedEdges}
use Rattle.mend_amend_words.proofs.Entries.{listed-none, listed_then, room-kept}

order-more : (f : ℕ → List Alteration) (n : ℕ) → in_order f (n + 1) ≡ in_order f n ++ f n
unfolding in_order
order-more f n = rw add-one

order-none : (f : ℕ → List Alteration) → in_order f 0 ≡ []
unfolding in_order
order-none f = refl

-- ---- segments
-- the table of which the first i are altered
abbrev pub segments_up_to : List ℕ → List ℕ → ℕ → Segments → Segments
segments_up_to edges next i t = record { segments = up_to (segment_by t.len edges next) t.len t.segments i; len = t.len }

-- so it is, and they are listed
pub record SegmentsTo (edges next : List ℕ) (i : ℕ) (ws₀ room₀ : List ℤ) (count : ℕ) (ws room : List ℤ) : Type 0 where
  pub became : Segs.Became (segments_up_to edges next i) ws₀ ws
  pub listed : Listed (segments_listed edges next (flat_segments ws₀) i) 0 room₀ count room

module _ (edges next : List ℕ) (ws₀ room₀ : List ℤ) (w : Segs.Whole ws₀) (size : length room₀ ≡ alteration_size * most_altered) where
  abbrev T : Segments
  T = flat_segments ws₀

  abbrev made : ℕ → Segment → Segment
  made = segment_by T.len edges next

  few-listed : (i : ℕ) → length (segments_listed edges next T i) ≤ 3 * i
  few-listed i = segments-few (λ (j : ℕ). of_segment j (segment_at T j) (made j (segment_at T j))) i (λ j. segment-few j (segment_at T j) (made j (segment_at T j)))

  all-places : T.len ≤ length T.segments
  all-places = omega (arith, segments-len ws₀, (flat-typed ws₀).places, w.few)

  pub segments-none : SegmentsTo edges next 0 ws₀ room₀ 0 ws₀ room₀
  segments-none = record {
    became = OfSegments.stays (segments_up_to edges next 0) w refl;
    listed =
        subst (λ (x : List Alteration). Listed x 0 room₀ 0 room₀) (sym (order-none (λ (j : ℕ). of_segment j (segment_at T j) (made j (segment_at T j)))))
        (listed-none 0 room₀);
  }

  -- the room is as long as it was
  pub segments-long : {i count : ℕ} {ws room : List ℤ} → SegmentsTo edges next i ws₀ room₀ count ws room → i ≤ segments_in ws₀ → length room ≡ length room₀
  segments-long {i} a h = room-kept a.listed (omega (arith, few-listed i, w.few)) size

  module _ {i count : ℕ} {ws room : List ℤ} (a : SegmentsTo edges next i ws₀ room₀ count ws room) (h : i < segments_in ws₀) where
    pub segments-room : count + 3 ≤ most_altered
    segments-room = omega (arith, a.listed.counted, few-listed i, w.few)

    -- the next one is as it was
    left : segment_at (flat_segments ws) i ≡ segment_at T i
    left =
        ap (λ (t : Segments). segment_at t i) (a.became.table tt) ∙ left_at made T.segments T.len all-places i i empty_segment
        (omega (arith, segments-len ws₀)) (omega arith)

    as_many : segments_in ws ≡ T.len
    as_many = count_in a.became ∙ sym (segments-len ws₀)

    pub segments-more : {r : ℕ} {ws' room' : List ℤ} → AmendedSegment i (get_or edges i 0) (get_or next i 0) count ws room r ws' room'
        → SegmentsTo edges next (i + 1) ws₀ room₀ r ws' room'
    segments-more {r} {ws'} {room'} m = record {
      became = OfSegments.became-as put (OfSegments.became-then a.became m.became);
      listed =
          subst (λ (x : List Alteration). Listed x 0 room₀ r room') (sym (order-more (λ (j : ℕ). of_segment j (segment_at T j) (made j (segment_at T j))) i))
          (listed_then a.listed one (omega (arith, few-listed i, segment-few i (segment_at T i) (made i (segment_at T i)), w.few)) size);
    }
      where
        one : Listed (of_segment i (segment_at T i) (made i (segment_at T i))) count room r room'
        one =
            subst (λ (n : ℕ). Listed (of_segment i (segment_at T i) (planned_segment n (get_or edges i 0) (get_or next i 0) (segment_at T i))) count room r room')
            as_many
            (subst (λ (s : Segment). Listed (of_segment i s (planned_segment (segments_in ws) (get_or edges i 0) (get_or next i 0) s)) count room r room') left
            m.listed)

        put : put_segment (segments_up_to edges next i T) i
            (planned_segment (segments_in ws) (get_or edges i 0) (get_or next i 0) (segment_at (segments_up_to edges next i T) i)) ≡ segments_up_to edges next (i + 1) T
        put = λ j. record {
          segments =
              one_written made T.segments T.len all-places i _ empty_segment (omega (arith, segments-len ws₀))
              ((λ k. planned_segment (as_many k) (get_or edges i 0) (get_or next i 0)
              (left_at made T.segments T.len all-places i i empty_segment (omega (arith, segments-len ws₀)) (omega arith) k))) j;
          len = T.len;
        }

  pub segments-all : {i count : ℕ} {ws room : List ℤ} → i ≤ segments_in ws₀ → segments_in ws₀ ≤ i → SegmentsTo edges next i ws₀ room₀ count ws room
      → AmendedSegments edges next ws₀ room₀ count ws room
  unfolding planned_segments
  segments-all {i} {count} {ws} {room} h g a = record {
    became = OfSegments.became-as
        (λ j. record {
          segments = all-written made T.segments T.len all-places i (omega (arith, segments-len ws₀)) (omega (arith, segments-len ws₀)) j;
          len = T.len;
        }) a.became;
    listed = let z : i ≡ segments_in ws₀ = omega arith in subst (λ (k : ℕ). Listed (segments_listed edges next T k) 0 room₀ count room) z a.listed;
    few = omega (arith, a.listed.counted, few-listed i, w.few);
  }

-- ---- edges
abbrev pub axis_up_to : List Bool → List ℕ → List ℕ → ℕ → Axis → Axis
axis_up_to broken firsts lasts i axis =
    record {
      dim = axis.dim;
      major_dir = axis.major_dir;
      edges = up_to (edge_by axis.len broken firsts lasts) axis.len axis.edges i;
      len = axis.len;
    }

pub record EdgesTo (broken : List Bool) (firsts lasts : List ℕ) (before i : ℕ) (es₀ room₀ : List ℤ) (count : ℕ) (es room : List ℤ) : Type 0 where
  pub became : Edges.Became (axis_up_to broken firsts lasts i) es₀ es
  pub listed : Listed (edges_listed broken firsts lasts (edges_of es₀) i) before room₀ count room

module _ (broken : List Bool) (firsts lasts : List ℕ) (before : ℕ) (es₀ room₀ : List ℤ) (w : Edges.Whole es₀) (fits : before + 4 * most_edges ≤ most_altered)
    (size : length room₀ ≡ alteration_size * most_altered) where
  abbrev A : Dimension → Axis
  A d = Edges.axis_in es₀ d

  abbrev ended : ℕ → ℕ → Edge → Edge
  ended m = edge_by m broken firsts lasts

  edges-few-listed : (i : ℕ) → length (edges_listed broken firsts lasts (edges_of es₀) i) ≤ 4 * i
  edges-few-listed i =
      edges_few (λ (j : ℕ). of_edge j (edge_at (edges_of es₀) j) (ended (edges_of es₀).len j (edge_at (edges_of es₀) j))) i
      (λ j. edge_few j (edge_at (edges_of es₀) j) (ended (edges_of es₀).len j (edge_at (edges_of es₀) j)))

  edge_places : (d : Dimension) → (A d).len ≤ length (A d).edges
  edge_places d = omega (arith, len-in es₀ d, axis-long es₀ d, w.few)

  pub edges_none : EdgesTo broken firsts lasts before 0 es₀ room₀ before es₀ room₀
  edges_none = record {
    became = OfEdges.stays (axis_up_to broken firsts lasts 0) w (λ d. refl);
    listed =
        subst (λ (x : List Alteration). Listed x before room₀ before room₀)
        (sym (order-none (λ (j : ℕ). of_edge j (edge_at (edges_of es₀) j) (ended (edges_of es₀).len j (edge_at (edges_of es₀) j)))))
        (listed-none before room₀);
  }

  pub edges_long : {i count : ℕ} {es room : List ℤ} → EdgesTo broken firsts lasts before i es₀ room₀ count es room → i ≤ edges_in es₀
      → length room ≡ length room₀
  edges_long {i} a h = room-kept a.listed (omega (arith, edges-few-listed i, w.few)) size

  module _ {i count : ℕ} {es room : List ℤ} (a : EdgesTo broken firsts lasts before i es₀ room₀ count es room) (h : i < edges_in es₀) where
    pub edges_room : count + 4 ≤ most_altered
    edges_room = omega (arith, a.listed.counted, edges-few-listed i, w.few)

    edge-left : (d : Dimension) → edge_at (axis_up_to broken firsts lasts i (A d)) i ≡ edge_at (A d) i
    edge-left d = left_at (ended (A d).len) (A d).edges (A d).len (edge_places d) i i empty_edge (omega (arith, len-in es₀ d)) (omega arith)

    edges-as-many : (d : Dimension) → edges_in es ≡ (A d).len
    edges-as-many d = count_in a.became ∙ sym (len-in es₀ d)

    abbrev new : ℕ → Edge → Edge
    new n e = planned_edge n (get_or broken i false) (get_or firsts i 0) (get_or lasts i 0) e

    pub edges_more : {r : ℕ} {es' room' : List ℤ} → AmendedEdge i (get_or broken i false) (get_or firsts i 0) (get_or lasts i 0) count es room r es' room'
        → EdgesTo broken firsts lasts before (i + 1) es₀ room₀ r es' room'
    edges_more {r} {es'} {room'} m = record {
      became = OfEdges.became-as put (OfEdges.became-then a.became m.became);
      listed =
          subst (λ (x : List Alteration). Listed x before room₀ r room')
          (sym (order-more (λ (j : ℕ). of_edge j (edge_at (edges_of es₀) j) (ended (edges_of es₀).len j (edge_at (edges_of es₀) j))) i))
          (listed_then a.listed one (omega (
            arith,
            edges-few-listed i,
            edge_few i (edge_at (edges_of es₀) i)
                (ended (edges_of es₀).len i (edge_at (edges_of es₀) i)),
            w.few,
          )) size);
    }
      where
        one : Listed (of_edge i (edge_at (edges_of es₀) i) (ended (edges_of es₀).len i (edge_at (edges_of es₀) i))) count room r room'
        one =
            subst (λ (n : ℕ). Listed (of_edge i (edge_at (edges_of es₀) i) (new n (edge_at (edges_of es₀) i))) count room r room')
            (edges-as-many Dimensions.Horizontal)
            (subst (λ (e : Edge). Listed (of_edge i e (new (edges_in es) e)) count room r room')
            (ap (λ (x : Axis). edge_at x i) (a.became.table Dimensions.Horizontal) ∙ edge-left Dimensions.Horizontal) m.listed)

        put : (d : Dimension) → put_edge (axis_up_to broken firsts lasts i (A d)) i (new (edges_in es) (edge_at (axis_up_to broken firsts lasts i (A d)) i))
            ≡ axis_up_to broken firsts lasts (i + 1) (A d)
        put d = λ j. record {
          dim = (A d).dim;
          major_dir = (A d).major_dir;
          edges =
              one_written (ended (A d).len) (A d).edges (A d).len (edge_places d) i _ empty_edge (omega (arith, len-in es₀ d))
              (λ k. new (edges-as-many d k) (edge-left d k)) j;
          len = (A d).len;
        }

  pub edges-all : {i count : ℕ} {es room : List ℤ} → i ≤ edges_in es₀ → edges_in es₀ ≤ i → EdgesTo broken firsts lasts before i es₀ room₀ count es room
      → AmendedEdges broken firsts lasts before es₀ room₀ count es room
  unfolding planned_axis
  edges-all {i} {count} {es} {room} h g a = record {
    became = OfEdges.became-as
        (λ d j. record {
          dim = (A d).dim;
          major_dir = (A d).major_dir;
          edges = all-written (ended (A d).len) (A d).edges (A d).len (edge_places d) i (omega (arith, len-in es₀ d)) (omega (arith, len-in es₀ d)) j;
          len = (A d).len;
        })
        a.became;
    listed =
        let z : i ≡ edges_in es₀ = omega arith in
        subst (λ (k : ℕ). Listed (edges_listed broken firsts lasts (edges_of es₀) k) before room₀ count room) z a.listed;
  }
