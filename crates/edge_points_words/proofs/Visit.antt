-- One segment's visit: as the code comes to it, and how far it moves a point.
use Rattle.std.specs.Prelude.{None, Some}
use mathlib.Core.Path.{◌≡◌, refl, sym, ap, subst, ◌∙◌}
use mathlib.Core.Bool.{Bool, true, false}
use mathlib.Core.List.{List}
use mathlib.Core.Option.{Option, some, none}
use Prim.Native.Nat.{ℕ, ◌+◌, ◌*◌, ◌≤◌, ◌<◌}
use native.Mathlib.Omega.{arith}
use lib.ListN.{length}
use lib.IntN.{ℤ}
use Rattle.signed.specs.Range.{Between}
use Rattle.signed.proofs.Choices.{cond-true, cond-false}
use Rattle.axis.specs.declared.edge.Edge.{Edge}
use Rattle.axis.specs.declared.edge.Axis.{Axis}
use Rattle.axis.specs.Link.{Link}
use Rattle.axis.specs.declared.segment.Segment.{Segment}
use Rattle.axis.specs.declared.segment.Segments.{Segments}
use Rattle.axis.specs.Edge.{edge_at}
use Rattle.axis.specs.Limits.{most_segments}
use Rattle.axis.specs.Ring.{times}
use Rattle.axis.specs.Segment.{segment_at}
use Rattle.weak_contour.specs.Limits.{most_points, most_delta}
use Rattle.weak_contour.specs.Contour.{at, Contour}
use Rattle.weak.specs.Weak.{contour_of}
use Rattle.words.specs.Segment.{segments_in, flat_segments}
use Rattle.words_call.specs.Lent.{edges_of}
use Rattle.words_edge.specs.Whole.{reduced}
use Rattle.edge_points.specs.EdgePoints.{Points, move_points, walked, moves, move_segment, along_edge, visit_segment}
use Rattle.edge_points.specs.declared.contour.Stretch.{Stretch}
use Rattle.edge_points.specs.Steps.{reached, most_reach, Reach, Mover, contour_in, stretch_of, Around}
use Rattle.edge_points.proofs.Moves.{moved-alike, currents_long, marks_long, grown}
use Rattle.edge_points.proofs.Runs.{walk-once}
use Rattle.edge_points_words.specs.Steps.{Accepted}
use Rattle.edge_points_words.proofs.Read.{OnContour, ends_on, is-mover}

-- ---- the ways through a visit
module _ (snap alone : Bool) (axis : Axis) (t : Segments) (es : List ℕ) (s : Points) (i : ℕ) where
  -- without an edge
  pub visit-none : (segment_at t i).edge ≡ None → s ≡ visit_segment snap alone axis t es s i
  unfolding visit_segment along_edge
  visit-none e = sym (ap (λ (l : Link). along_edge snap alone axis es (segment_at t i) l s) e)

  module _ (k : ℕ) (e : (segment_at t i).edge ≡ Some k) where
    along : visit_segment snap alone axis t es s i ≡ move_segment snap alone (segment_at t i) (edge_at axis k) (contour_of 0 es (segment_at t i).first) s
    unfolding visit_segment along_edge
    along = ap (λ (l : Link). along_edge snap alone axis es (segment_at t i) l s) e

    -- by an edge that moves no points
    pub visit-still : moves alone (edge_at axis k) ≡ false → s ≡ visit_segment snap alone axis t es s i
    unfolding move_segment
    visit-still m = sym (along ∙ by (contour_of 0 es (segment_at t i).first))
      where
        by : (o : Option Contour) → move_segment snap alone (segment_at t i) (edge_at axis k) o s ≡ s
        by none = refl
        by (some c) = cond-false (moves alone (edge_at axis k)) _ s m

    -- by one that does
    pub visit-moves : (c : Contour) → contour_of 0 es (segment_at t i).first ≡ some c → moves alone (edge_at axis k) ≡ true
        → move_points snap (edge_at axis k) (walked c (segment_at t i).first (segment_at t i).last) s ≡ visit_segment snap alone axis t es s i
    unfolding move_segment
    visit-moves c f m =
        sym (along ∙ ap (λ (o : Option Contour). move_segment snap alone (segment_at t i) (edge_at axis k) o s) f ∙ cond-true (moves alone (edge_at axis k)) _ s m)

-- ---- as the code comes to it
-- what is read of an edge is enough to tell whether it moves points, and to move them
pub read-moves : (alone : Bool) (ws es : List ℤ) (i : ℕ) {k : ℕ} (d : Edge) (r : Bool) {v : Bool} → (segment_at (flat_segments ws) i).edge ≡ Some k
    → d ≡ reduced (edge_at (edges_of es) k)
    → r ≡ moves alone d → r ≡ v → moves alone (edge_at (edges_of es) k) ≡ v
read-moves alone ws es i d r e q p g = ap (moves alone) (sym q) ∙ sym p ∙ g

pub read-mover : (d e : Edge) → d ≡ reduced e → Mover e → Mover d
read-mover d e q m = subst Mover (sym q) (record { pos = m.pos; opos = m.opos })

module _ (es : List ℕ) (n first last : ℕ) (o : OnContour es n first last) (few : n ≤ most_points) (k : Stretch) (q : k ≡ stretch_of (contour_of 0 es first)) where
  found : k ≡ record { start = o.contour.start; end = o.contour.end }
  unfolding stretch_of
  found = q ∙ ap stretch_of o.found

  pub walk-ready : Around k first last n
  walk-ready =
      subst (λ (x : Stretch). Around x first last n) (sym found)
      (record { from_low = o.from_low; from_high = o.from_high; to_low = o.to_low; to_high = o.to_high; inside = o.inside; few = few })

  pub same-contour : contour_in k ≡ o.contour
  same-contour = ap contour_in found

module _ (ws es : List ℤ) (alone : Bool) (n : ℕ) (ends : List ℕ) (a : Accepted ws es alone n ends) (i : ℕ) (h : i < segments_in ws) (k : ℕ)
    (e : (segment_at (flat_segments ws) i).edge ≡ Some k) where
  abbrev g : Segment
  g = segment_at (flat_segments ws) i

  abbrev on : OnContour ends n g.first g.last
  on = ends_on ws es alone n ends a i h k e

  module _ (first last : ℕ) (p : first ≡ g.first) (q : last ≡ g.last) (c : Stretch) (f : c ≡ stretch_of (contour_of 0 ends first)) where
    at_first : c ≡ stretch_of (contour_of 0 ends g.first)
    at_first = f ∙ ap (λ (x : ℕ). stretch_of (contour_of 0 ends x)) p

    -- the contour is there to be walked
    pub segment-ready : Around c first last n
    segment-ready =
        subst (λ (x : ℕ). Around c x last n) (sym p)
        (subst (λ (x : ℕ). Around c g.first x n) (sym q) (walk-ready ends n g.first g.last on a.few c at_first))

    -- the walk is the segment's visit
    pub segment-moved : (snap : Bool) (s x : Points) (d : Edge) → d ≡ reduced (edge_at (edges_of es) k) → moves alone (edge_at (edges_of es) k) ≡ true
        → x ≡ move_points snap d (walked (contour_in c) first last) s → x ≡ visit_segment snap alone (edges_of es) (flat_segments ws) ends s i
    segment-moved snap s x d r m y =
        y ∙ moved-alike snap d (edge_at (edges_of es) k) _ s (ap (λ (z : Edge). z.pos) r) (ap (λ (z : Edge). z.opos) r)
        ∙ (λ z. move_points snap (edge_at (edges_of es) k) (walked (same-contour ends n g.first g.last on a.few c at_first z) (p z) (q z)) s)
        ∙ visit-moves snap alone (edges_of es) (flat_segments ws) ends s i k e on.contour on.found m

-- ---- how far it moves a point
-- the lengths stay, and no current comes farther than by 131,070 units
pub record Grew (s s' : Points) : Type 0 where
  pub currents_size : length s'.currents ≡ length s.currents
  pub marks_size : length s'.touched ≡ length s.touched
  pub reach : (b : ℕ) → Reach b s.currents → Reach (b + most_delta) s'.currents

grew_none : (s : Points) → Grew s s
grew_none s = record { currents_size = refl; marks_size = refl; reach = λ b r j. omega (arith, r j) }

grew-walk : (snap : Bool) (e : Edge) (k : Contour) (first last : ℕ) (s : Points) → Mover e → k.start ≤ first → first < k.end → k.start ≤ last
    → last < k.end → k.end ≤ most_points
    → Grew s (move_points snap e (walked k first last) s)
grew-walk snap e k first last s m a b c d f = record {
  currents_size = currents_long snap e (walked k first last) s;
  marks_size = marks_long snap e (walked k first last) s;
  reach = λ n r j. wider n j (times j (walked k first last)) (walk-once k first last most_points j a b c d f) (grown snap e m (walked k first last) s j n (r j));
}
  where
    wider : (n j x : ℕ) → x ≤ 1 → Between (n + most_delta * x) (n + most_delta * x) (at (move_points snap e (walked k first last) s).currents j)
        → Between (n + most_delta) (n + most_delta) (at (move_points snap e (walked k first last) s).currents j)
    wider n j x l g = omega (arith, l, g)

-- where no more than all segments are visited, no current has come farther than by all
pub reach-most : (i : ℕ) (c : List ℤ) → i ≤ most_segments → Reach (reached i) c → Reach most_reach c
reach-most i c h r j = omega (arith, h, r j)

pub visit-grew : (ws es : List ℤ) (alone : Bool) (n : ℕ) (ends : List ℕ) → Accepted ws es alone n ends → (i : ℕ) → i < segments_in ws
    → (snap : Bool) (s : Points)
    → Grew s (visit_segment snap alone (edges_of es) (flat_segments ws) ends s i)
visit-grew ws es alone n ends a i h snap s = by (segment_at (flat_segments ws) i).edge refl
  where
    to : (k : ℕ) → (segment_at (flat_segments ws) i).edge ≡ Some k → (b : Bool) → moves alone (edge_at (edges_of es) k) ≡ b
        → Grew s (visit_segment snap alone (edges_of es) (flat_segments ws) ends s i)
    to k e false m = subst (Grew s) (visit-still snap alone (edges_of es) (flat_segments ws) ends s i k e m) (grew_none s)
    to k e true m =
        let o = ends_on ws es alone n ends a i h k e in
        subst (Grew s) (visit-moves snap alone (edges_of es) (flat_segments ws) ends s i k e o.contour o.found m)
        (grew-walk snap (edge_at (edges_of es) k) o.contour _ _ s (is-mover ws es alone n ends a i h k e m) o.from_low o.from_high o.to_low
        o.to_high (omega (arith, o.inside, a.few)))

    by : (l : Link) → (segment_at (flat_segments ws) i).edge ≡ l → Grew s (visit_segment snap alone (edges_of es) (flat_segments ws) ends s i)
    by None e = subst (Grew s) (visit-none snap alone (edges_of es) (flat_segments ws) ends s i e) (grew_none s)
    by (Some k) e = to k e (moves alone (edge_at (edges_of es) k)) refl
