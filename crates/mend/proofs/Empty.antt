-- An empty list says that there was nothing to mend.
use Rattle.std.specs.Prelude.{Some}
use mathlib.Core.Path.{◌≡◌, refl, sym, ap, subst, ◌∙◌}
use mathlib.Core.List.{List, []}
use Prim.Native.Nat.{ℕ, ◌<◌}
use Rattle.axis.specs.declared.edge.Edge.{Edge}
use Rattle.axis.specs.declared.edge.Axis.{Axis}
use Rattle.axis.specs.Link.{Link}
use Rattle.axis.specs.declared.segment.Segment.{Segment}
use Rattle.axis.specs.declared.segment.Segments.{Segments}
use Rattle.axis.specs.Edge.{edge_at}
use Rattle.axis.specs.Segment.{segment_at}
use Rattle.mend.specs.Mended.{mended_segment, mended_edge, mended_segments, mended_axis}
use Rattle.mend.specs.Altered.{Table, Field, Alteration, alterations, before}
use Rattle.mend.specs.Altered as L
use Rattle.mend.proofs.Places.{mended-segment-at, mended-edge-at}
use Rattle.mend.proofs.Sound.{Mendable}
use Rattle.mend.proofs.Twice.{Good, segment-as, edge-as, segments-stay, axis-stays, mended-good}
use Rattle.mend.proofs.Undone.{link-undone, serif_undone, next-undone, edge-link-undone, edge-serif-undone, first-undone, last-undone}

-- a field that an empty list is asked for holds what it held
unlisted : (l : List Alteration) (x : Table) (i : ℕ) (f : Field) (now old : Link) → l ≡ [] → before l x i f now ≡ old → now ≡ old
unfolding before
unlisted l x i f now old e h = ap (λ (m : List Alteration). before m x i f now) (sym e) ∙ h

same_index : (a b : ℕ) → Some a ≡ Some b → a ≡ b
same_index a b e = cc

module _ (axis : Axis) (t : Segments) (a : Mendable axis t) (none : alterations axis t (mended_axis axis t) (mended_segments axis t) ≡ []) where
  abbrev axis' : Axis
  axis' = mended_axis axis t

  abbrev t' : Segments
  t' = mended_segments axis t

  segment-same : (i : ℕ) → i < t.len → mended_segment axis t i (segment_at t i) ≡ segment_at t i
  segment-same i h =
      let s = mended-segment-at axis t a.segments_whole i h in
      segment-as axis t i (segment_at t i)
      (sym (ap (λ (x : Segment). x.link) s) ∙ unlisted _ L.segments i L.link _ _ none (link-undone axis t axis' t' i h))
      (sym (ap (λ (x : Segment). x.serif) s) ∙ unlisted _ L.segments i L.serif _ _ none (serif_undone axis t axis' t' i h))
      (sym (ap (λ (x : Segment). x.next) s) ∙ unlisted _ L.segments i L.next _ _ none (next-undone axis t axis' t' i h))

  edge_same : (k : ℕ) → k < axis.len → mended_edge axis t k (edge_at axis k) ≡ edge_at axis k
  edge_same k h =
      let e = mended-edge-at axis t a.edges_whole k h in
      edge-as axis t k (edge_at axis k)
      (sym (ap (λ (x : Edge). x.link) e) ∙ unlisted _ L.edges k L.link _ _ none (edge-link-undone axis t axis' t' k h))
      (sym (ap (λ (x : Edge). x.serif) e) ∙ unlisted _ L.edges k L.serif _ _ none (edge-serif-undone axis t axis' t' k h))
      (sym (ap (λ (x : Edge). x.first) e) ∙ same_index _ _ (unlisted _ L.edges k L.first _ _ none (first-undone axis t axis' t' k h)))
      (sym (ap (λ (x : Edge). x.last) e) ∙ same_index _ _ (unlisted _ L.edges k L.last _ _ none (last-undone axis t axis' t' k h)))

  -- every index was below its list, and every ring sound
  pub was-good : Good axis t
  was-good =
      subst (λ (x : Segments). Good axis x) (segments-stay axis t a.segments_whole segment-same)
      (subst (λ (x : Axis). Good x t') (axis-stays axis t a.edges_whole edge_same) (mended-good axis t a))
