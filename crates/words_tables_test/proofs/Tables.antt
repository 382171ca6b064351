-- What is read of segments and edges where their words stand, and what words that hold tell of the tests.
use mathlib.Core.Path.{◌≡◌, refl, sym, ap, ◌∙◌}
use mathlib.Core.Bool.{Bool, true, ◌&&◌}
use mathlib.Core.List.{List}
use Prim.Native.Nat.{ℕ, ◌%◌, ◌≤◌, ◌<◌, min}
use native.Mathlib.Nat.{mod-eq_of_lt}
use native.Mathlib.Omega.{arith}
use borrow.Author.Tests.{lt-ltb}
use lib.Dec.{ltb, leb}
use lib.IntN.{ℤ, pos, negsuc, ◌-ℤ◌}
use lib.Signed.{le_z}
use Rattle.signed.proofs.Signed.{sub-law}
use Rattle.signed.proofs.Order.{le-true}
use Rattle.refusals.specs.Refusal.{refusal}
use Rattle.refusals.proofs.Tests.{and_first, and_second, no-refusal}
use Rattle.axis.specs.declared.edge.Edge.{Edge}
use Rattle.axis.specs.declared.segment.Segment.{Segment}
use Rattle.axis.specs.Edge.{edge_at}
use Rattle.axis.specs.Limits.{most_edges, most_segments}
use Rattle.axis.specs.Refusals.{link_holds, edge_segments, segment_edge, segments_indices}
use Rattle.axis.specs.Segment.{segment_at}
use Rattle.turn.specs.Indices.{index_tests}
use Rattle.words.specs.Word.{word_at}
use Rattle.words.specs.Field.{index_of, link_of}
use Rattle.words.specs.Edge as E
use Rattle.words.specs.Segment as S
use Rattle.words_shape.specs.declared.field.Range.{Range}
use Rattle.words_shape.specs.Shape as Shape
use Rattle.words_shape.specs.Shape.{edges_shown, segments_shown}
use Rattle.words_call.specs.Lent.{edges_of}
use Rattle.words_call.proofs.Holding.{clash, and_both, link-holds}
use Rattle.words_edge.specs.Whole as Edges
use Rattle.words_edge.proofs.Wholes.{edges-len, edge_in}
use Rattle.words_segment.specs.Whole as Segments
use Rattle.words_segment.proofs.Wholes.{segments-len, segment-in}
use Rattle.words_edge_test.specs.Held.{links_to}
use Rattle.words_tables_test.specs.Held.{indices_to, Held}

-- an index below a count
index_below : (n : ℕ) (w : ℤ) → n ≤ most_segments → Shape.is_in (indices_to n) w ≡ true → ltb (index_of w) n ≡ true
index_below n (negsuc m) few h = absurd (clash h)
index_below n (pos m) few h =
    let l = le-true (pos m) (pos n -ℤ pos 1) (and_second (le_z (pos 0) (pos m)) _ h) in
    let s = sub-law (pos n) (pos 1) in
    let e : m % 65536 ≡ m = mod-eq_of_lt (omega (arith, l, s)) in
    lt-ltb (m % 65536) n (omega (arith, l, s, e))

-- ---- words of a segment
module _ (ws : List ℤ) (i : ℕ) (w : Segments.Whole ws) (h : i < S.segments_in ws) where
  pub edge-is : link_of (word_at ws (S.word_of_segment i S.edge_place)) ≡ (segment_at (S.flat_segments ws) i).edge
  unfolding S.segment_from
  edge-is = sym (ap (λ (s : Segment). s.edge) (segment-in ws i w h))

  -- the segment is one of those that are tested
  pub tested-segment : i < min (S.flat_segments ws).len most_segments
  tested-segment = omega (arith, segments-len ws, w.few)

  -- its edge is one of so many where its word is one of those values
  pub edge-named : (m : ℕ) {links : Range} {r : Bool} → m ≤ most_segments → links ≡ links_to m
      → r ≡ Shape.is_in links (word_at ws (S.word_of_segment i S.edge_place)) → r ≡ true
      → segment_edge m (segment_at (S.flat_segments ws) i) ≡ true
  unfolding segment_edge
  edge-named m {links} few l e g =
      ap (link_holds m) (sym edge-is)
      ∙ link-holds m _ (omega (arith, few)) (ap (λ (x : Range). Shape.is_in x (word_at ws (S.word_of_segment i S.edge_place))) (sym l) ∙ sym e ∙ g)

-- ---- and of an edge
module _ (es : List ℤ) (i : ℕ) (w : Edges.Whole es) (h : i < E.edges_in es) where
  first_is : index_of (word_at es (E.word_of_edge i E.first_place)) ≡ (edge_at (edges_of es) i).first
  unfolding E.edge_from
  first_is = sym (ap (λ (e : Edge). e.first) (edge_in es _ i w h))

  last_is : index_of (word_at es (E.word_of_edge i E.last_place)) ≡ (edge_at (edges_of es) i).last
  unfolding E.edge_from
  last_is = sym (ap (λ (e : Edge). e.last) (edge_in es _ i w h))

  -- its first and last are of so many where their words are of those values
  pub ends_named : (n : ℕ) {indices : Range} {p q r : Bool} → n ≤ most_segments → indices ≡ indices_to n
      → p ≡ Shape.is_in indices (word_at es (E.word_of_edge i E.first_place))
      → q ≡ Shape.is_in indices (word_at es (E.word_of_edge i E.last_place)) → r ≡ (p && q) → r ≡ true → edge_segments n (edge_at (edges_of es) i) ≡ true
  unfolding edge_segments
  ends_named n {indices} {p} {q} few l a b e g =
      let t = sym e ∙ g in
      and_both _ _
      (ap (λ (x : ℕ). ltb x n) (sym first_is) ∙ index_below n (word_at es (E.word_of_edge i E.first_place)) few
      (ap (λ (x : Range). Shape.is_in x (word_at es (E.word_of_edge i E.first_place))) (sym l) ∙ sym a ∙ and_first p q t))
      (ap (λ (x : ℕ). ltb x n) (sym last_is) ∙ index_below n (word_at es (E.word_of_edge i E.last_place)) few
      (ap (λ (x : Range). Shape.is_in x (word_at es (E.word_of_edge i E.last_place))) (sym l) ∙ sym b ∙ and_second p q t))

-- ---- words that hold
module _ (ws es : List ℤ) (h : Held ws es) where
  pub all_shown : true ≡ (segments_shown ws && edges_shown es)
  all_shown = sym (and_both _ _ h.segments.words h.edges.words)

  pub all-indexed : 0 ≡ refusal (index_tests (edges_of es) (S.flat_segments ws))
  all-indexed =
      let few-segments = ap (λ (n : ℕ). leb n most_segments) (segments-len ws) ∙ h.segments.few in
      let few-edges = ap (λ (n : ℕ). leb n most_edges) (edges-len es) ∙ h.edges.few in
      let linked = and_first _ _ h.segments.indices in
      let ringed = and_second (segments_indices (S.flat_segments ws)) _ h.segments.indices in
      sym (no-refusal (index_tests (edges_of es) (S.flat_segments ws))
      (few-segments, (few-edges, (linked, (ringed, (h.to_edges, (h.edges.indices, (h.to_segments, refl))))))))
