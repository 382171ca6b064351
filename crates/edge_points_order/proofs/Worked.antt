-- What each hypothesis and each exception is there for, by hand: the smallest outlines that end out of order without it.
use Rattle.std.specs.Prelude.{None, Some}
use mathlib.Core.Path.{◌≡◌, refl, subst}
use mathlib.Core.Bool.{Bool, true, false}
use mathlib.Core.List.{List, [], ◌∷◌}
use Prim.Native.Nat.{ℕ, zero, suc, ◌<◌}
use native.Mathlib.Omega.{arith}
use lib.IntN.{ℤ, pos, neg_ℤ}
use lib.ListN.{length}
use lib.Signed.{◌<ℤ◌}
use Rattle.signed.proofs.Choices.{clash}
use Rattle.signed.proofs.Signed.{signed, is-<ℤ}
use Rattle.axis.specs.declared.edge.Edge.{Edge}
use Rattle.axis.specs.declared.edge.Axis.{Axis}
use Rattle.axis.specs.declared.kinds.Dimension.TheVariants as Dimensions
use Rattle.axis.specs.declared.kinds.Direction.TheVariants as Directions
use Rattle.axis.specs.declared.kinds.Mark.TheVariants.{Stem}
use Rattle.axis.specs.declared.segment.Segment.{Segment}
use Rattle.axis.specs.declared.segment.Segments.{Segments}
use Rattle.axis.specs.Edge.{edge_at, fresh_edge, placed, finished}
use Rattle.axis.specs.Ring.{walk, times}
use Rattle.axis.specs.Segment.{empty_segment}
use Rattle.axis.specs.Visits.{visits}
use Rattle.gaps.specs.Gaps.{is_done}
use Rattle.weak_contour.specs.Contour.{
  at,
  is_touched,
  first_touched,
  last_touched,
  touched_before,
  touched_behind,
  references,
  first_of,
  second_of,
  interpolated,
  between_at,
  shifted_at,
  followed,
  weak_at,
}
use Rattle.weak.specs.Weak.{contour_of, on_contour, aligned_at, list_of}
use Rattle.edge_points.specs.EdgePoints.{behind, Points, moved_by, move_points, move_segment, along_edge, visit_segment, move_all}
use Rattle.edge_points_order.specs.Order.{EdgesApart, meets, mover_of, mover_at, last_mover, Ready}

-- an edge not done that was at o and came to p, and one that is done
abbrev left : ℤ → ℤ → Edge
left o p = placed (fresh_edge (pos 0) o Directions.Up 0) p Stem

abbrev done : ℤ → ℤ → Edge
done o p = finished (left o p)

-- point i alone as a segment of edge k
abbrev single : ℕ → ℕ → Segment
single i k = record {
  flags = empty_segment.flags;
  dir = Directions.Up;
  pos = pos 0;
  delta = pos 0;
  min_coord = pos 0;
  max_coord = pos 0;
  height = pos 0;
  score = pos 0;
  len = pos 0;
  link = None;
  serif = None;
  first = i;
  last = i;
  edge = Some k;
  next = None;
}

-- edge points, with snap, on one contour of these points; then where weak points puts them, by their originals
abbrev moved : Bool → List Edge → List Segment → List ℤ → List ℕ → Points
moved alone es ss c t =
    move_all true alone (record { dim = Dimensions.Vertical; major_dir = Directions.Up; edges = es; len = length es })
    (record { segments = ss; len = length ss }) (2 ∷ [])
    (record { currents = c; touched = t })

abbrev ended : List ℤ → Points → List ℤ
ended o s = list_of (aligned_at o s.currents s.touched (2 ∷ [])) 0 3

-- in order: edges 0 to 0 and 61 to 64, and a point between them
in_order : ended (pos 61 ∷ pos 0 ∷ pos 61 ∷ [])
    (moved true (done (pos 0) (pos 0) ∷ done (pos 61) (pos 64) ∷ []) (single 1 0 ∷ single 2 1 ∷ []) (pos 61 ∷ pos 0 ∷ pos 61 ∷ []) (0 ∷ 0 ∷ 0 ∷ []))
    ≡ pos 64 ∷ pos 0 ∷ pos 64 ∷ []
unfolding visits visit_segment along_edge move_segment move_points moved_by walk behind contour_of list_of aligned_at on_contour weak_at followed references
    touched_before touched_behind first_touched last_touched between_at first_of second_of interpolated
in_order = refl

-- the exception: two edges of one original position that came to -30 and 0. The point with original 4 ends at -1, above the one of original 5 at -30
parted : ended (pos 4 ∷ pos 5 ∷ pos 5 ∷ [])
    (moved true (done (pos 5) (neg_ℤ (pos 30)) ∷ done (pos 5) (pos 0) ∷ []) (single 1 0 ∷ single 2 1 ∷ []) (pos 4 ∷ pos 5 ∷ pos 5 ∷ []) (0 ∷ 0 ∷ 0 ∷ []))
    ≡ neg_ℤ (pos 1) ∷ neg_ℤ (pos 30) ∷ pos 0 ∷ []
unfolding visits visit_segment along_edge move_segment move_points moved_by walk behind contour_of list_of aligned_at on_contour weak_at followed references
    touched_before touched_behind first_touched last_touched between_at first_of second_of interpolated
parted = refl

-- points of an edge that is not done are moved too: those with originals 3 and 4 are turned
not_done : (moved false (done (pos 3) (neg_ℤ (pos 4)) ∷ left (pos 4) (neg_ℤ (pos 17)) ∷ []) (single 0 0 ∷ single 1 1 ∷ []) (pos 3 ∷ pos 4 ∷ pos 4 ∷ [])
    (0 ∷ 0 ∷ 0 ∷ [])).currents
    ≡ neg_ℤ (pos 4) ∷ neg_ℤ (pos 17) ∷ pos 4 ∷ []
unfolding visits visit_segment along_edge move_segment move_points moved_by walk behind contour_of
not_done = refl

-- a point was touched before, at -56: the last point, of original -1, ends there, below the one of original -2 at -4
touched-before : ended (neg_ℤ (pos 2) ∷ neg_ℤ (pos 1) ∷ neg_ℤ (pos 1) ∷ [])
    (moved true (done (neg_ℤ (pos 2)) (neg_ℤ (pos 4)) ∷ []) (single 0 0 ∷ []) (neg_ℤ (pos 2) ∷ neg_ℤ (pos 56) ∷ neg_ℤ (pos 1) ∷ []) (0 ∷ 1 ∷ 0 ∷ []))
    ≡ neg_ℤ (pos 4) ∷ neg_ℤ (pos 56) ∷ neg_ℤ (pos 56) ∷ []
unfolding visits visit_segment along_edge move_segment move_points moved_by walk behind contour_of list_of aligned_at on_contour weak_at followed references
    touched_before touched_behind first_touched last_touched between_at first_of second_of interpolated
touched-before = refl

-- a current was not its original: the point with original 27 stays at 375, above the one of original 28, which the others follow by 0
not-still : ended (pos 28 ∷ pos 27 ∷ pos 28 ∷ []) (moved true (done (pos 28) (pos 28) ∷ []) (single 0 0 ∷ []) (pos 28 ∷ pos 375 ∷ pos 28 ∷ []) (0 ∷ 0 ∷ 0 ∷ []))
    ≡ pos 28 ∷ pos 375 ∷ pos 28 ∷ []
unfolding visits visit_segment along_edge move_segment move_points moved_by walk behind contour_of list_of aligned_at on_contour weak_at followed references
    touched_before touched_behind first_touched last_touched between_at shifted_at first_of second_of interpolated
not-still = refl

-- the edge that moves a point of two segments last: that of the later segment
last-of-two : last_mover true (record {
  dim = Dimensions.Vertical;
  major_dir = Directions.Up;
  edges = done (pos 0) (pos 5) ∷ done (pos 0) (pos 9)
      ∷ [];
  len = 2;
}) (record { segments = single 1 1 ∷ single 1 0 ∷ []; len = 2 }) (2 ∷ []) 1 2
    ≡ Some 0
unfolding last_mover mover_at mover_of meets times walk behind contour_of
last-of-two = refl

-- ---- the hypotheses can be met
-- by the outline in order: its edges, segments and points
abbrev axis : Axis
axis = record { dim = Dimensions.Vertical; major_dir = Directions.Up; edges = done (pos 0) (pos 0) ∷ done (pos 61) (pos 64) ∷ []; len = 2 }

abbrev table : Segments
table = record { segments = single 1 0 ∷ single 2 1 ∷ []; len = 2 }

abbrev originals : List ℤ
originals = pos 61 ∷ pos 0 ∷ pos 61 ∷ []

abbrev points : Points
points = record { currents = originals; touched = 0 ∷ 0 ∷ 0 ∷ [] }

apart : EdgesApart axis
apart = record { at = two }
  where
    two : (i j : ℕ) → i < 2 → j < 2 → is_done axis i ≡ true → is_done axis j ≡ true → (edge_at axis i).opos <ℤ (edge_at axis j).opos
        → (edge_at axis i).pos <ℤ (edge_at axis j).pos
    two zero zero a b d e l = absurd (omega (arith, signed))
    two zero (suc zero) a b d e l = is-<ℤ (pos 0) (pos 64) refl
    two zero (suc (suc j)) a b d e l = absurd (omega arith)
    two (suc zero) zero a b d e l = absurd (omega (arith, signed))
    two (suc zero) (suc zero) a b d e l = absurd (omega (arith, signed))
    two (suc zero) (suc (suc j)) a b d e l = absurd (omega arith)
    two (suc (suc i)) j a b d e l = absurd (omega arith)

on_edge : (p k : ℕ) → p < 3 → last_mover true axis table (2 ∷ []) p 2 ≡ Some k → at originals p ≡ (edge_at axis k).opos
unfolding last_mover mover_at mover_of meets times walk behind contour_of
on_edge zero k h e = let z : ◌≡◌ {A = ℕ} 0 1 = cc in absurd (omega arith)
on_edge (suc zero) k h e = let q : 0 ≡ k = cc in subst (λ (x : ℕ). pos 0 ≡ (edge_at axis x).opos) q refl
on_edge (suc (suc zero)) k h e = let q : 1 ≡ k = cc in subst (λ (x : ℕ). pos 61 ≡ (edge_at axis x).opos) q refl
on_edge (suc (suc (suc p))) k h e = absurd (omega arith)

untouched : (p : ℕ) → is_touched (0 ∷ 0 ∷ 0 ∷ []) p ≡ false
untouched zero = refl
untouched (suc zero) = refl
untouched (suc (suc zero)) = refl
untouched (suc (suc (suc p))) = refl

ready : Ready true true axis table originals points (2 ∷ [])
ready = record {
  done = λ e. absurd (clash true e refl);
  still = refl;
  untouched = untouched;
  on_edge = on_edge;
  once = λ e. absurd (clash true e refl);
}
