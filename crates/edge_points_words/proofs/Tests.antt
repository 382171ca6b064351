-- The tests of the call, as the code comes to them.
use Rattle.std.specs.Prelude.{None, Some}
use mathlib.Core.Path.{◌≡◌, refl, sym, ap, ◌∙◌}
use mathlib.Core.Bool.{Bool, true, false, not, ◌&&◌, ◌||◌}
use mathlib.Core.List.{List, [], ◌∷◌}
use Prim.Native.Nat.{ℕ, ◌≤◌, ◌<◌}
use native.Mathlib.Omega.{arith}
use borrow.Author.Tests.{le-leb, eq-eqb}
use lib.Dec.{leb, ltb, eqb}
use lib.ListN.{length}
use Rattle.signed.proofs.Choices.{cond-true}
use Rattle.refusals.specs.Refusal.{Test, ◌unless◌, refusal, answered, bad_index, out_of_range}
use Rattle.refusals.proofs.Tests.{own_first, all_hold, answered-no, answered-yes}
use Rattle.axis.specs.declared.edge.Axis.{Axis}
use Rattle.axis.specs.declared.edge.Edge.{Edge}
use Rattle.axis.specs.Link.{Link}
use Rattle.axis.specs.declared.segment.Segment.{Segment}
use Rattle.axis.specs.declared.segment.Segments.{Segments}
use Rattle.axis.specs.Edge.{edge_at}
use Rattle.axis.specs.Refusals.{within, segments_in_range, edges_in_range}
use Rattle.weak_contour.specs.Limits.{most_points, most_coordinate}
use Rattle.weak.specs.Weak.{ends_hold, coordinates_hold, contour_of}
use Rattle.turn.specs.Indices.{segments_edges, index_tests}
use Rattle.words_edge.specs.Whole.{reduced}
use Rattle.edge_points.specs.EdgePoints.{Points, moves, is_on, on_one, segment_points, segments_points, mover_holds, movers_hold, points_tests}
use Rattle.edge_points.specs.declared.contour.Stretch.{Stretch}
use Rattle.edge_points.specs.Steps.{stretch_of}
use Rattle.edge_points.proofs.Walks.{on-stretch}

-- ---- first and last of a segment
module _ (es : List ℕ) (g : Segment) where
  pub points-free : g.edge ≡ None → true ≡ segment_points es g g.edge
  unfolding segment_points
  points-free e = sym (ap (segment_points es g) e)

  pub points_on : (k first last : ℕ) (c : Stretch) (r : Bool) → g.edge ≡ Some k → first ≡ g.first → last ≡ g.last → c ≡ stretch_of (contour_of 0 es first)
      → r ≡ (leb c.start last && ltb last c.end) → r ≡ segment_points es g g.edge
  unfolding segment_points on_one
  points_on k first last c r e p q f o =
      o ∙ (λ x. leb (f x).start (q x) && ltb (q x) (f x).end) ∙ on-stretch (contour_of 0 es first) g.last
      ∙ ap (λ (x : ℕ). is_on (contour_of 0 es x) g.last) p
      ∙ sym (ap (segment_points es g) e)

-- ---- the edge of a segment
or-free : (m b : Bool) → m ≡ false → true ≡ (not m || b)
or-free m b e = rw e

or-asked : (m b : Bool) → m ≡ true → b ≡ (not m || b)
or-asked m b e = rw e

module _ (alone : Bool) (axis : Axis) (l : Link) where
  pub mover-free : l ≡ None → true ≡ mover_holds alone axis l
  unfolding mover_holds
  mover-free e = sym (ap (mover_holds alone axis) e)

  pub mover-still : (k : ℕ) → l ≡ Some k → moves alone (edge_at axis k) ≡ false → true ≡ mover_holds alone axis l
  unfolding mover_holds
  mover-still k e m = or-free _ _ m ∙ sym (ap (mover_holds alone axis) e)

  pub mover-asked : (k : ℕ) (d : Edge) (r : Bool) → l ≡ Some k → d ≡ reduced (edge_at axis k) → moves alone (edge_at axis k) ≡ true
      → r ≡ within most_coordinate d.pos → r ≡ mover_holds alone axis l
  unfolding mover_holds
  mover-asked k d r e q m t = t ∙ ap (λ (x : Edge). within most_coordinate x.pos) q ∙ or-asked _ _ m ∙ sym (ap (mover_holds alone axis) e)

-- ---- the refusal
module _ (alone : Bool) (axis : Axis) (t : Segments) (s : Points) (es : List ℕ) where
  -- the tests behind those of the lengths and of both tables' indices
  abbrev pub own_tests : List Test
  own_tests =
      bad_index unless ends_hold 0 (length s.currents) es
      ∷ bad_index unless segments_points es t
      ∷ segments_in_range t
      ∷ edges_in_range axis
      ∷ out_of_range unless coordinates_hold most_coordinate s.currents
      ∷ out_of_range unless movers_hold alone axis t
      ∷ []

  module _ (few : length s.currents ≤ most_points) (same : length s.touched ≡ length s.currents) (r : ℕ) (e : r ≡ refusal (index_tests axis t)) where
    split : refusal (points_tests alone axis t s es) ≡ answered (refusal (index_tests axis t)) (λ (k : ℕ). k) (refusal own_tests)
    unfolding refusal
    split =
        cond-true (leb (length s.currents) most_points) _ _ (le-leb (length s.currents) most_points few)
        ∙ cond-true (eqb (length s.touched) (length s.currents)) _ _ (eq-eqb (length s.touched) (length s.currents) same)
        ∙ own_first (index_tests axis t) own_tests refl

    -- by an index
    pub index-refuses : 0 < r → r ≡ refusal (points_tests alone axis t s es)
    index-refuses h = answered-no r _ (λ (k : ℕ). k) (refusal own_tests) e h ∙ sym split

    -- by the others
    pub own-refuses : r ≤ 0 → (x : ℕ) → x ≡ refusal own_tests → x ≡ refusal (points_tests alone axis t s es)
    own-refuses h x q = answered-yes r _ (λ (k : ℕ). k) (refusal own_tests) x e h q ∙ sym split

-- what no refusal by an index says
pub to_edges : (axis : Axis) (t : Segments) (r m : ℕ) → r ≡ refusal (index_tests axis t) → r ≤ 0 → axis.len ≡ m → segments_edges m t ≡ true
to_edges axis t r m e h q =
    let z : r ≡ 0 = omega arith in
    ap (λ (n : ℕ). segments_edges n t) (sym q) ∙ (all_hold (index_tests axis t) refl (sym e ∙ z)).1.1.1.1.0
