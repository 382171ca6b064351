-- Segments and edges turned over where their words stand.
use Rattle.std.specs.Prelude.{Some}
use mathlib.Core.Path.{◌≡◌, refl, sym, ap, ◌∙◌}
use mathlib.Core.Bool.{true}
use mathlib.Core.List.{List}
use Prim.Native.Nat.{ℕ, ◌+◌, ◌-◌, ◌*◌, ◌≤◌, ◌<◌, min}
use native.Mathlib.Omega.{arith}
use lib.ListN.{length, drop, get_or-append}
use lib.IntN.{ℤ, pos}
use Rattle.axis.specs.declared.edge.Edge.{Edge}
use Rattle.axis.specs.declared.edge.Axis.{Axis}
use Rattle.axis.specs.declared.kinds.Dimension.TheVariants as Dimensions
use Rattle.axis.specs.Link.{Link}
use Rattle.axis.specs.declared.segment.Segment.{Segment}
use Rattle.axis.specs.declared.segment.Segments.{Segments}
use Rattle.axis.specs.Accepted.{Below}
use Rattle.axis.specs.Edge.{edge_at}
use Rattle.axis.specs.Limits.{most_edges, most_segments}
use Rattle.axis.specs.Refusals.{link_holds, edge_indices, edges_indices, segment_edge}
use Rattle.axis.specs.Segment.{segment_at}
use Rattle.axis.proofs.Acceptance.{link-below}
use Rattle.axis.proofs.Tests.{every-at}
use Rattle.turn.specs.Indices.{segments_edges}
use Rattle.turn.specs.Turning.{turned_index, turned_link, turned_edge, turned_axis, turned_segments}
use Rattle.turn.proofs.Places.{segments_to, segments-more, segments-all, segments-left, turned-edge-at}
use Rattle.turn.proofs.Twice.{turned-below}
use Rattle.build_mark.specs.Marks.{ringed}
use Rattle.words.specs.Word.{word_at, written}
use Rattle.words.specs.Field.{link_of}
use Rattle.words.specs.Edge.{edge_size, edges_in, edge_from, edge_words, edge_words_at}
use Rattle.words.specs.Segment.{segment_size, edge_place, word_of_segment, segments_in, segment_from, flat_segments, segments_over}
use Rattle.words.proofs.Typed.{flat-typed}
use Rattle.words.proofs.Writing.{written-front}
use Rattle.words_call.specs.Lent.{edges_of}
use Rattle.words_edge.specs.Whole as Edges
use Rattle.words_edge.proofs.Wholes.{edges-len, axis-long, edge_in}
use Rattle.words_edge.proofs.Writes.{edge_same}
use Rattle.words_segment.specs.Whole.{Whole, Became, leading}
use Rattle.words_segment.proofs.Wholes.{segments-len}
use Rattle.words_segment.proofs.Became.{became-then, became-as, became-over, count_in}
use Rattle.words_segment_test.proofs.Refusals.{segment-held}

-- the edge of a segment is the one that its word names
edge-from : (ws : List ℤ) (at : ℕ) → (segment_from ws at).edge ≡ link_of (word_at ws (at + edge_place))
unfolding segment_from
edge-from ws at = refl

edge_of : (ws : List ℤ) (i : ℕ) → i < min (segments_in ws) most_segments → (segment_at (flat_segments ws) i).edge ≡ link_of (word_at ws (word_of_segment i edge_place))
edge_of ws i h = ap (λ (s : Segment). s.edge) (segment-held ws i h) ∙ edge-from ws (segment_size * i)

-- ---- segments
-- an edge renumbered is an edge
pub turned-in : (m : ℕ) (edge turned : Link) → m ≤ most_edges → link_holds m edge ≡ true → turned ≡ turned_link m edge → Below most_edges turned
turned-in m edge turned few t q =
    record { at = λ (k : ℕ) (e : turned ≡ Some k). omega (arith, (turned-below m edge (link-below m edge t)).at k (sym q ∙ e)) }

module _ (m : ℕ) (ws₀ : List ℤ) (w : Whole ws₀) where
  abbrev T : Segments
  T = flat_segments ws₀

  -- the table has all its places
  all-places : T.len ≤ length T.segments
  all-places = omega (arith, segments-len ws₀, (flat-typed ws₀).places, w.few)

  -- the first i of them are turned over
  module _ (ws : List ℤ) (i : ℕ) (h : i < segments_in ws₀) (a : Became (λ (t : Segments). segments_to m t i) ws₀ ws) where
    -- the next one is what it was
    left : segment_at (segments_to m T i) i ≡ segment_at T i
    left = segments-left m T all-places i i (omega (arith, segments-len ws₀)) (omega arith)

    next_edge : (edge : Link) → edge ≡ link_of (word_at ws (word_of_segment i edge_place)) → edge ≡ (segment_at T i).edge
    next_edge edge e =
        e ∙ sym (edge_of ws i (omega (arith, count_in a, w.few)))
        ∙ ap (λ (t : Segments). (segment_at t i).edge) (a.table tt) ∙ ap (λ (s : Segment). s.edge) left

    -- its edge is an edge
    pub next-holds : (edge : Link) → segments_edges m T ≡ true → edge ≡ link_of (word_at ws (word_of_segment i edge_place)) → link_holds m edge ≡ true
    unfolding segments_edges segment_edge
    next-holds edge t e = ap (link_holds m) (next_edge edge e) ∙ every-at _ i (min T.len most_segments) t (omega (arith, segments-len ws₀, w.few))

    -- one more
    pub one_more : (edge turned : Link) (ws' : List ℤ) → edge ≡ link_of (word_at ws (word_of_segment i edge_place)) → turned ≡ turned_link m edge
        → Became (leading i turned) ws ws'
        → Became (λ (t : Segments). segments_to m t (i + 1)) ws₀ ws'
    one_more edge turned ws' e q b =
        became-as
        (segments-more m T all-places (segments_to m T i) i _ (omega (arith, segments-len ws₀)) refl
        (ap (λ (s : Segment). ringed s turned s.next) left
        ∙ ap (λ (x : Link). ringed (segment_at T i) x (segment_at T i).next) (q ∙ ap (turned_link m) (next_edge edge e))))
        (became-then a b)

  -- all of them
  pub all-turned : (ws : List ℤ) (i : ℕ) → i ≤ segments_in ws₀ → segments_in ws₀ ≤ i → Became (λ (t : Segments). segments_to m t i) ws₀ ws
      → ws ≡ segments_over ws₀ (turned_segments m T)
  all-turned ws i h g a =
      became-over {f = turned_segments m} w (became-as (segments-all m T all-places i (omega (arith, segments-len ws₀)) (omega (arith, segments-len ws₀))) a)

-- ---- edges
-- read from a copy of their words
word_copied : (xs es : List ℤ) (k : ℕ) → k < length es → word_at (written xs 0 es) k ≡ word_at es k
word_copied xs es k h = ap (λ (l : List ℤ). word_at l k) (written-front xs es) ∙ get_or-append es (drop (length es) xs) (pos 0) k h

edge-copied : (xs es : List ℤ) (at : ℕ) → at + edge_size ≤ length es → edge_from (written xs 0 es) at ≡ edge_from es at
edge-copied xs es at h = edge_same es (written xs 0 es) at (λ (k : ℕ) (l : k < edge_size). word_copied xs es (at + k) (omega arith))

module _ (es xs copy : List ℤ) (w : Edges.Whole es) (e : copy ≡ written xs 0 es) (i : ℕ) (h : i < edges_in es) (edge : Edge)
    (q : edge ≡ edge_from copy (edge_size * turned_index (edges_in es) i)) where
  abbrev A : Axis
  A = edges_of es

  -- the edge in the place counted from the other end
  is-edge : edge ≡ edge_at A (turned_index (edges_in es) i)
  is-edge =
      let k : turned_index (edges_in es) i < edges_in es = omega arith in
      q ∙ ap (λ (ws : List ℤ). edge_from ws (edge_size * turned_index (edges_in es) i)) e
      ∙ edge-copied xs es (edge_size * turned_index (edges_in es) i) (omega (arith, w.long))
      ∙ sym (edge_in es Dimensions.Horizontal (turned_index (edges_in es) i) w k)

  -- its indices are edges
  pub edge-holds : edges_indices A ≡ true → edge_indices (edges_in es) edge ≡ true
  unfolding edges_indices
  edge-holds t =
      ap (edge_indices (edges_in es)) is-edge ∙ ap (λ (n : ℕ). edge_indices n (edge_at A (turned_index (edges_in es) i))) (sym (edges-len es))
      ∙ every-at _ (turned_index (edges_in es) i) (min A.len most_edges) t (omega (arith, edges-len es, w.few))

  -- renumbered it is the edge of the axis turned over
  pub edge-turned : (turned : Edge) (v : List ℤ) → turned ≡ turned_edge (edges_in es) edge → v ≡ edge_words turned → v ≡ edge_words_at (turned_axis A) i
  edge-turned turned v p r =
      r
      ∙ ap edge_words
      (p ∙ ap (turned_edge (edges_in es)) is-edge ∙ ap (λ (n : ℕ). turned_edge n (edge_at A (turned_index n i))) (sym (edges-len es))
      ∙ sym (turned-edge-at A (omega (arith, edges-len es, axis-long es Dimensions.Horizontal, w.few)) i (omega (arith, edges-len es))))
