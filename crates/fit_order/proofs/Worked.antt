-- By hand: an outline that ends in order, what equal originals may end as, and what two of the hypotheses are there for.
use Rattle.std.specs.Prelude.{None, Some}
use mathlib.Core.Path.{◌≡◌, refl, subst}
use mathlib.Core.Bool.{Bool, true, false}
use mathlib.Core.List.{List, [], ◌∷◌}
use Prim.Native.Nat.{ℕ, zero, suc, ◌≤◌, ◌<◌}
use native.Mathlib.Omega.{arith}
use borrow.Author.Tests.{ne_eqb}
use lib.IntN.{ℤ, pos}
use lib.ListN.{length}
use lib.Signed.{◌≤ℤ◌, ◌<ℤ◌}
use Rattle.refusals.specs.Refusal.{refusal}
use Rattle.signed.proofs.Choices.{clash}
use Rattle.signed.proofs.Signed.{signed, is-≤ℤ}
use Rattle.axis.specs.declared.edge.Edge.{Edge}
use Rattle.axis.specs.declared.edge.Axis.{Axis}
use Rattle.axis.specs.declared.kinds.Dimension.TheVariants as Dimensions
use Rattle.axis.specs.declared.kinds.Direction.TheVariants as Directions
use Rattle.axis.specs.declared.kinds.Mark.TheVariants.{Stem}
use Rattle.axis.specs.declared.segment.Segment.{Segment}
use Rattle.axis.specs.declared.segment.Segments.{Segments}
use Rattle.axis.specs.Edge.{edge_at, fresh_edge, placed}
use Rattle.axis.specs.Link.{is_linked}
use Rattle.axis.specs.Refusals.{link_holds, blue_holds, every, edge_indices, edge_numbers, edges_indices, edges_numbers, segment_edge, edge_segments}
use Rattle.axis.specs.Refusals.{segment_indices, segment_next, segment_numbers, segments_indices, segments_nexts, segments_numbers}
use Rattle.axis.specs.Ring.{walk, times}
use Rattle.axis.specs.Segment.{empty_segment}
use Rattle.axis.specs.Visits.{visits}
use Rattle.fixed.specs.Point.{rounded, rounded_z, mul_fix, div_fix}
use Rattle.fixed.specs.Divide.{too_steep}
use Rattle.weak_contour.specs.Contour.{at, is_touched}
use Rattle.weak.specs.Weak.{ends_hold, coordinate_holds, coordinates_hold, contour_of}
use Rattle.turn.specs.Indices.{segments_edges, edges_segments}
use Rattle.edge_points.specs.EdgePoints.{
  behind,
  Points,
  moved_by,
  move_points,
  move_segment,
  along_edge,
  visit_segment,
  move_all,
  is_on,
  on_one,
  segment_points,
  segments_points,
  mover_holds,
  movers_hold,
  edge_answer,
  edge_result,
}
use Rattle.edge_points_order.specs.Order.{meets, mover_of, mover_at, last_mover}
use Rattle.words.specs.Word.{firsts}
use Rattle.strong.specs.Strong.{
  fpos_at,
  one_by_one,
  by_halving,
  found,
  moved_with,
  between,
  on_or_before,
  place_of,
  strong_at,
  current_after,
  mark_after,
  Aligned,
  aligned_all,
  align_strong,
}
use Rattle.strong.specs.Steps.{Shorts}
use Rattle.fit_order.specs.Order.{AllInOrder, Scaled, Before, TouchedInOrder}
use Rattle.fit_order.proofs.Scales.{all-rise}
use Rattle.fit_order.proofs.Fit.{strong-in-order}

-- an edge at the font position f that was at o and is at p; none of these is done
abbrev edge : ℤ → ℤ → ℤ → Edge
edge f o p = placed (fresh_edge f o Directions.Up 0) p Stem

abbrev axis_of : List Edge → Axis
axis_of es = record { dim = Dimensions.Vertical; major_dir = Directions.Up; edges = es; len = length es }

-- point i alone as a segment of edge k
abbrev single : ℕ → ℕ → Segment
single i k = record {
  flags = empty_segment.flags;
  dir = Directions.Up;
  pos = pos 0;
  delta = pos 0;
  min_coord = pos 0;
  max_coord = pos 0;
  height = pos 0;
  score = pos 0;
  len = pos 0;
  link = None;
  serif = None;
  first = i;
  last = i;
  edge = Some k;
  next = None;
}

abbrev table_of : List Segment → Segments
table_of ss = record { segments = ss; len = length ss }

-- edge points with snap, all edges moving points, on one contour of three points, and strong points behind it
abbrev ended : List Edge → List Segment → List ℤ → List ℤ → Aligned
ended es ss f o =
    let m = move_all true false (axis_of es) (table_of ss) (2 ∷ []) (record { currents = o; touched = 0 ∷ 0 ∷ 0 ∷ [] }) in
    aligned_all (axis_of es) f o m.currents m.touched (0 ∷ 0 ∷ 0 ∷ [])

-- ---- in order
-- two edges by the scale 1/2, at font positions 0 and 100, that came from 0 to 0 and from 50 to 64; a point on each and a strong point between them
abbrev pair : List Edge
pair = edge (pos 0) (pos 0) (pos 0) ∷ edge (pos 100) (pos 50) (pos 64) ∷ []

abbrev both : List Segment
both = single 0 0 ∷ single 2 1 ∷ []

abbrev fonts : List ℤ
fonts = pos 0 ∷ pos 50 ∷ pos 100 ∷ []

abbrev originals : List ℤ
originals = pos 0 ∷ pos 25 ∷ pos 50 ∷ []

in_order : ended pair both fonts originals ≡ record { answer = 0; currents = pos 0 ∷ pos 32 ∷ pos 64 ∷ []; touched = 1 ∷ 1 ∷ 1 ∷ [] }
unfolding visits visit_segment along_edge move_segment move_points moved_by walk behind contour_of firsts strong_at current_after mark_after place_of found one_by_one
    by_halving on_or_before between moved_with too_steep mul_fix div_fix rounded_z rounded
in_order = refl

-- ---- equal originals
-- by the scale 1/4 the font positions 11 and 10 have one original, 3: the first point ends at 35 and the second at 32, so that the premise of the theorem has
-- to be strict
equal-originals : (ended (edge (pos 0) (pos 0) (pos 0) ∷ edge (pos 20) (pos 5) (pos 64) ∷ []) [] (pos 11 ∷ pos 10 ∷ pos 20 ∷ []) (pos 3 ∷ pos 3 ∷ pos 5 ∷ [])
    ).currents
    ≡ pos 35 ∷ pos 32 ∷ pos 64 ∷ []
unfolding visits firsts strong_at current_after mark_after place_of found one_by_one by_halving on_or_before between moved_with too_steep mul_fix div_fix rounded_z rounded
equal-originals = refl

one-original : ◌≡◌ {A = List ℤ} (mul_fix (pos 11) (pos 16384) ∷ mul_fix (pos 10) (pos 16384) ∷ mul_fix (pos 20) (pos 16384) ∷ []) (pos 3 ∷ pos 3 ∷ pos 5 ∷ [])
unfolding mul_fix rounded_z rounded
one-original = refl

-- ---- without a hypothesis
-- two edges of one original position, 10, came to 9 and 5: the point on it ends at 9, and the one of original 11 at 7
two-positions :
    (ended (edge (pos 0) (pos 0) (pos 0) ∷ edge (pos 10) (pos 10) (pos 9) ∷ edge (pos 10) (pos 10) (pos 5) ∷ edge (pos 20) (pos 20) (pos 20) ∷ []) []
    (pos 10 ∷ pos 11 ∷ pos 20 ∷ [])
    (pos 10 ∷ pos 11 ∷ pos 20 ∷ [])).currents
    ≡ pos 9 ∷ pos 7 ∷ pos 20 ∷ []
unfolding visits firsts strong_at current_after mark_after place_of found one_by_one by_halving on_or_before between moved_with too_steep mul_fix div_fix rounded_z rounded
two-positions = refl

-- originals 3 and 4 at font positions 0 and 1, between edges that are scaled by 1: they end at 3 and 1
not-scaled : (ended (edge (pos 0) (pos 0) (pos 0) ∷ edge (pos 2) (pos 2) (pos 2) ∷ []) [] (pos 0 ∷ pos 1 ∷ pos 2 ∷ []) (pos 3 ∷ pos 4 ∷ pos 5 ∷ [])).currents
    ≡ pos 3 ∷ pos 1 ∷ pos 5 ∷ []
unfolding visits firsts strong_at current_after mark_after place_of found one_by_one by_halving on_or_before between moved_with too_steep mul_fix div_fix rounded_z rounded
not-scaled = refl

-- ---- the hypotheses can be met
-- by the outline in order
all-in-order : AllInOrder (axis_of pair)
all-in-order = record { fonts = rise; apart = apart; level = level }
  where
    rise : (i j : ℕ) → i ≤ j → j < 2 → fpos_at (axis_of pair) i ≤ℤ fpos_at (axis_of pair) j
    rise zero zero h l = is-≤ℤ (pos 0) (pos 0) refl
    rise zero (suc zero) h l = is-≤ℤ (pos 0) (pos 100) refl
    rise (suc zero) (suc zero) h l = is-≤ℤ (pos 100) (pos 100) refl
    rise (suc i) zero h l = absurd (omega arith)
    rise zero (suc (suc j)) h l = absurd (omega arith)
    rise (suc zero) (suc (suc j)) h l = absurd (omega arith)
    rise (suc (suc i)) (suc j) h l = absurd (omega arith)

    apart : (i j : ℕ) → i < 2 → j < 2 → (edge_at (axis_of pair) i).opos <ℤ (edge_at (axis_of pair) j).opos
        → (edge_at (axis_of pair) i).pos ≤ℤ (edge_at (axis_of pair) j).pos
    apart zero zero a b l = is-≤ℤ (pos 0) (pos 0) refl
    apart zero (suc zero) a b l = is-≤ℤ (pos 0) (pos 64) refl
    apart (suc zero) zero a b l = absurd (omega (arith, signed))
    apart (suc zero) (suc zero) a b l = is-≤ℤ (pos 64) (pos 64) refl
    apart (suc (suc i)) j a b l = absurd (omega arith)
    apart zero (suc (suc j)) a b l = absurd (omega arith)
    apart (suc zero) (suc (suc j)) a b l = absurd (omega arith)

    level : (i j : ℕ) → i < 2 → j < 2 → (edge_at (axis_of pair) i).opos ≡ (edge_at (axis_of pair) j).opos → (edge_at (axis_of pair) i).pos ≡ (edge_at (axis_of pair) j).pos
    level zero zero a b e = refl
    level zero (suc zero) a b e = absurd (omega (arith, signed))
    level (suc zero) zero a b e = absurd (omega (arith, signed))
    level (suc zero) (suc zero) a b e = refl
    level (suc (suc i)) j a b e = absurd (omega arith)
    level zero (suc (suc j)) a b e = absurd (omega arith)
    level (suc zero) (suc (suc j)) a b e = absurd (omega arith)

scaled : Scaled (pos 32768) (axis_of pair) fonts originals
unfolding mul_fix rounded_z rounded
scaled = record { positive = is-≤ℤ (pos 0) (pos 32768) refl; points = points; edges = edges }
  where
    points : (p : ℕ) → p < 3 → at originals p ≡ mul_fix (at fonts p) (pos 32768)
    points zero h = refl
    points (suc zero) h = refl
    points (suc (suc zero)) h = refl
    points (suc (suc (suc p))) h = absurd (omega arith)

    edges : (i : ℕ) → i < 2 → (edge_at (axis_of pair) i).opos ≡ mul_fix (fpos_at (axis_of pair) i) (pos 32768)
    edges zero h = refl
    edges (suc zero) h = refl
    edges (suc (suc i)) h = absurd (omega arith)

abbrev points : Points
points = record { currents = originals; touched = 0 ∷ 0 ∷ 0 ∷ [] }

before : (snap : Bool) → Before snap false (axis_of pair) (table_of both) originals points (2 ∷ [])
unfolding last_mover mover_at mover_of meets times walk behind contour_of
before snap = record { untouched = untouched; on_edge = on_edge; still = λ _. refl; once = λ _. once }
  where
    untouched : (p : ℕ) → is_touched (0 ∷ 0 ∷ 0 ∷ []) p ≡ false
    untouched zero = refl
    untouched (suc zero) = refl
    untouched (suc (suc zero)) = refl
    untouched (suc (suc (suc p))) = refl

    on_edge : (p k : ℕ) → p < 3 → last_mover false (axis_of pair) (table_of both) (2 ∷ []) p 2 ≡ Some k → at originals p ≡ (edge_at (axis_of pair) k).opos
    on_edge zero k h e = let q : 0 ≡ k = cc in subst (λ (x : ℕ). pos 0 ≡ (edge_at (axis_of pair) x).opos) q refl
    on_edge (suc zero) k h e = let z : ◌≡◌ {A = ℕ} 0 1 = cc in absurd (omega arith)
    on_edge (suc (suc zero)) k h e = let q : 1 ≡ k = cc in subst (λ (x : ℕ). pos 50 ≡ (edge_at (axis_of pair) x).opos) q refl
    on_edge (suc (suc (suc p))) k h e = absurd (omega arith)

    once : (p i j : ℕ) → i < j → j < 2 → is_linked (mover_at false (axis_of pair) (table_of both) (2 ∷ []) p i) ≡ true
        → is_linked (mover_at false (axis_of pair) (table_of both) (2 ∷ []) p j) ≡ true → ⊥
    once p (suc i) zero a b x y = omega arith
    once p (suc i) (suc zero) a b x y = omega arith
    once p i (suc (suc j)) a b x y = omega arith
    once p zero zero a b x y = omega arith
    once zero zero (suc zero) a b x y = clash false refl y
    once (suc p) zero (suc zero) a b x y = clash false refl (rw (ne_eqb (suc p) 0 (λ e. omega arith)) at x)

-- so the theorem is of it too: edge points answers 0, and with snap and without, behind it and strong points the touched points are in order
answers : edge_answer false (axis_of pair) (table_of both) points (2 ∷ []) ≡ 0
unfolding edge_answer refusal link_holds blue_holds every edge_indices edge_numbers edges_indices edges_numbers segment_indices segment_next segment_numbers
    segments_indices segments_nexts segments_numbers segment_edge edge_segments segments_edges edges_segments ends_hold contour_of is_on on_one segment_points
    segments_points coordinate_holds coordinates_hold mover_holds movers_hold
answers = refl

short : Shorts (axis_of pair)
short zero h = omega arith
short (suc zero) h = omega arith
short (suc (suc i)) h = absurd (omega arith)

applies : (snap : Bool) → let m = edge_result snap false (axis_of pair) (table_of both) points (2 ∷ []) in
    let a = align_strong (axis_of pair) fonts originals m.currents m.touched (0 ∷ 0 ∷ 0 ∷ []) in TouchedInOrder originals a.currents a.touched
applies snap =
    strong-in-order (pos 32768) snap false (axis_of pair) (table_of both) fonts originals points (0 ∷ 0 ∷ 0 ∷ []) (2 ∷ [])
    (all-rise (pos 32768) (axis_of pair) fonts originals scaled all-in-order) short scaled (before snap) answers
