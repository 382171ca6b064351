-- The chain's theorem: edge points on edges in order, and weak points behind it, leave points in order.
use Rattle.std.specs.Prelude.{None, Some}
use mathlib.Core.Path.{◌≡◌, refl, sym, ap, subst, ◌∙◌}
use mathlib.Core.Bool.{Bool, true, false, not, cond, ◌||◌}
use mathlib.Core.List.{List, [], ◌∷◌}
use mathlib.Core.Logic.{◌⊎◌, inl, inr, ⊎_elim}
use Prim.Native.Nat.{ℕ, suc, ◌≤◌, ◌<◌, min}
use native.Mathlib.Omega.{arith}
use borrow.Author.Tests.{leb-true, eqb-true, le-leb, eq-eqb}
use lib.ListN.{length, get_or-eq_default}
use lib.IntN.{ℤ, pos, nat_abs}
use Rattle.refusals.specs.Refusal.{refusal, steep}
use Rattle.refusals.proofs.Answers.{worked}
use Rattle.refusals.proofs.Tests.{all_hold, no-refusal, own_first}
use Rattle.signed.proofs.Choices.{clash}
use Rattle.signed.proofs.Signed.{signed, same, abs-of, lt-or-le}
use Rattle.axis.specs.declared.edge.Edge.{Edge}
use Rattle.axis.specs.declared.edge.Axis.{Axis}
use Rattle.axis.specs.Link.{Link}
use Rattle.axis.specs.declared.segment.Segments.{Segments}
use Rattle.axis.specs.Edge.{edge_at}
use Rattle.axis.specs.Limits.{most_segments}
use Rattle.axis.specs.Refusals.{segment_edge}
use Rattle.axis.specs.Segment.{segment_at}
use Rattle.axis.proofs.Acceptance.{link-below, within-between}
use Rattle.axis.proofs.Tests.{every-at}
use Rattle.turn.specs.Indices.{segments_edges}
use Rattle.gaps.specs.Gaps.{is_done}
use Rattle.weak_contour.specs.Contour.{at, is_touched}
use Rattle.weak_contour.specs.Limits.{most_points, most_coordinate}
use Rattle.weak_contour.proofs.Searches.{is-touched, not-touched, unmarked}
use Rattle.weak.specs.Weak.{ends_hold, coordinate_holds, coordinates_hold, list_tests, number_tests, weak_tests, gentle, Outcome}
use Rattle.weak.proofs.Refusals.{coordinates-of, number-steep}
use Rattle.edge_points.specs.EdgePoints.{
  Points,
  moved_by,
  moves,
  move_all,
  segment_points,
  segments_points,
  mover_holds,
  movers_hold,
  points_tests,
  edge_answer,
  edge_result,
}
use Rattle.edge_points_order.specs.Order.{
  EdgesInOrder,
  EdgesApart,
  OnePosition,
  last_mover,
  Ready,
  PlacedBy,
  PlacedByEdges,
  Beside,
  Parted,
  Gained,
  PointsApart,
}
use Rattle.edge_points_order.proofs.Edges.{apart_in_order}
use Rattle.edge_points_order.proofs.Moved.{Came, SameSize, last-mover, mover-at, moved, moved-size}
use Rattle.edge_points_order.proofs.Neighbours.{gained, points-apart, not-parted}

-- ---- what answer 0 of edge points says
-- the second of two tests holds where the first is not asked for
or-second : (x y : Bool) → x ≡ true → (not x || y) ≡ true → y ≡ true
or-second x y e h = rw e at h

-- coordinates that are each within a limit hold
all-within : (most : ℕ) (l : List ℤ) → ((i : ℕ) → nat_abs (at l i) ≤ most) → coordinates_hold most l ≡ true
unfolding coordinates_hold coordinate_holds
all-within most [] h = refl
all-within most (z ∷ l) h = rw (le-leb (nat_abs z) most (h 0), all-within most l (λ i. h (suc i)))

pub record Taken (alone : Bool) (axis : Axis) (t : Segments) (s : Points) (es : List ℕ) : Type 0 where
  pub few : length s.currents ≤ most_points
  pub marks : length s.touched ≡ length s.currents
  pub ends : ends_hold 0 (length s.currents) es ≡ true
  pub edges : (i k : ℕ) → i < t.len → (segment_at t i).edge ≡ Some k → k < axis.len
  pub walks : (i : ℕ) → i < t.len → segment_points es (segment_at t i) (segment_at t i).edge ≡ true
  pub currents : coordinates_hold most_coordinate s.currents ≡ true
  pub positions : (i k : ℕ) → i < t.len → (segment_at t i).edge ≡ Some k → moves alone (edge_at axis k) ≡ true → nat_abs (edge_at axis k).pos ≤ most_coordinate

pub taken : (alone : Bool) (axis : Axis) (t : Segments) (s : Points) (es : List ℕ) → edge_answer alone axis t s es ≡ 0 → Taken alone axis t s es
unfolding edge_answer segments_edges segment_edge segments_points movers_hold mover_holds
taken alone axis t s es e =
    let h = all_hold (points_tests alone axis t s es) refl e in
    let i = h.1.1 in
    let few = leb-true t.len most_segments i.0 in
    let p = i.1.1.1.1.1.1.1 in
    record {
      few = leb-true (length s.currents) most_points h.0;
      marks = eqb-true (length s.touched) (length s.currents) h.1.0;
      ends = p.0;
      edges =
          λ j k l q. (link-below axis.len (segment_at t j).edge
          (every-at _ j (min t.len most_segments) i.1.1.1.1.0 (below-min j t.len most_segments few l))).at k q;
      walks = λ j l. every-at _ j (min t.len most_segments) p.1.0 (below-min j t.len most_segments few l);
      currents = p.1.1.1.1.0;
      positions = λ j k l q m.
          held k (subst (λ (x : Link). mover_holds alone axis x ≡ true) q
          (every-at _ j (min t.len most_segments) p.1.1.1.1.1.0 (below-min j t.len most_segments few l))) m;
    }
  where
    below-min : (i n most : ℕ) → n ≤ most → i < n → i < min n most
    below-min i n most h g = let m : min n most ≡ n = omega arith in rw m g

    held : (k : ℕ) → mover_holds alone axis (Some k) ≡ true → moves alone (edge_at axis k) ≡ true → nat_abs (edge_at axis k).pos ≤ most_coordinate
    held k h m = let b = within-between most_coordinate (edge_at axis k).pos (or-second (moves alone (edge_at axis k)) _ m h) in omega (arith, abs-of b)

-- ---- the edge of a moved point
-- an edge that moves points is done, where done ones alone do or all are
mover-done : (alone done : Bool) → (not alone || done) ≡ true → (alone ≡ false → done ≡ true) → done ≡ true
mover-done true done h f = h
mover-done false done h f = f refl

-- a point that was where an edge was comes to where that is, with snap and without
pub comes-along : (snap : Bool) (e : Edge) (v : ℤ) → v ≡ e.opos → moved_by snap e v ≡ e.pos
unfolding moved_by
comes-along true e v q = refl
comes-along false e v q = same (omega (arith, signed))

module _ (snap alone : Bool) (axis : Axis) (t : Segments) (o : List ℤ) (s : Points) (es : List ℕ) (ready : Ready snap alone axis t o s es)
    (yes : edge_answer alone axis t s es ≡ 0) where
  -- what edge points leaves
  abbrev left : Points
  left = edge_result snap alone axis t s es

  -- the points moved
  abbrev after : Points
  after = move_all snap alone axis t es s

  left_is : left ≡ after
  unfolding edge_result
  left_is = worked (λ _. s) after (edge_answer alone axis t s es) yes

  -- the tests of edge points hold
  tests : Taken alone axis t s es
  tests = taken alone axis t s es yes

  -- there are as many points, and each has come to its place
  size : SameSize s after
  size = moved-size snap alone axis t es s tests.few tests.marks tests.ends tests.walks ready.once

  came : (p : ℕ) → p < length s.currents → Came snap axis s after p (last_mover alone axis t es p t.len)
  came p h = moved snap alone axis t es s tests.few tests.marks tests.ends tests.walks ready.once p h

  -- a moved point was where its edge was, and comes to where that is
  module _ (p k : ℕ) (h : p < length s.currents) (q : last_mover alone axis t es p t.len ≡ Some k) (r : Came snap axis s after p (Some k)) where
    was : at o p ≡ (edge_at axis k).opos
    was = ready.on_edge p k (omega (arith, ap (λ (l : List ℤ). length l) ready.still)) q

    is : at after.currents p ≡ (edge_at axis k).pos
    is = r.current ∙ ap (λ (l : List ℤ). moved_by snap (edge_at axis k) (at l p)) ready.still ∙ comes-along snap (edge_at axis k) (at o p) was

  -- what stands behind the last point is nothing
  none-touched : (p : ℕ) → length s.currents ≤ p → is_touched after.touched p ≡ false
  none-touched p g =
      not-touched after.touched p (get_or-eq_default after.touched 0 {n = p} (omega (arith, size.marks, tests.marks)))

  touched : (p : ℕ) → is_touched after.touched p ≡ true → PlacedBy axis o after.currents p
  touched p m =
      ⊎_elim (λ (h : p < length s.currents). by h (last_mover alone axis t es p t.len) refl (came p h))
      (λ (g : length s.currents ≤ p). absurd (clash _ (none-touched p g) m)) (lt-or-le p (length s.currents))
    where
      by : p < length s.currents → (l : Link) → last_mover alone axis t es p t.len ≡ l → Came snap axis s after p l
          → PlacedBy axis o after.currents p
      by h None q r =
          absurd (clash (is_touched after.touched p) (not-touched after.touched p (r.mark ∙ unmarked s.touched p (ready.untouched p))) m)
      by h (Some k) q r =
          let f = last-mover alone axis t es p k q in
          let g = mover-at alone axis t es p f.segment k f.by in
          let there = tests.edges f.segment k f.below g.edge in
          record {
            edge = k;
            there = there;
            done = mover-done alone (is_done axis k) g.moving (λ e. ready.done e k there);
            was = was p k h q r;
            is = is p k h q r;
          }

  others : (p : ℕ) → is_touched after.touched p ≡ false → at after.currents p ≡ at o p
  others p m =
      ⊎_elim (λ (h : p < length s.currents). by (last_mover alone axis t es p t.len) (came p h))
      (λ (g : length s.currents ≤ p).
      get_or-eq_default after.currents (pos 0) {n = p} (omega (arith, size.currents))
      ∙ sym (get_or-eq_default o (pos 0) {n = p} (omega (arith, ap (λ (l : List ℤ). length l) ready.still)))) (lt-or-le p (length s.currents))
    where
      by : (l : Link) → Came snap axis s after p l → at after.currents p ≡ at o p
      by None r = r.current ∙ ap (λ (l : List ℤ). at l p) ready.still
      by (Some k) r = absurd (clash (is_touched after.touched p) m (is-touched after.touched p (omega (arith, r.mark))))

  -- edge points leaves points that edges have placed
  pub placed : PlacedByEdges axis o left.currents left.touched
  placed = subst (λ (x : Points). PlacedByEdges axis o x.currents x.touched) (sym left_is) (record { touched = touched; others = others })

  -- ---- weak points behind it
  -- every current is a coordinate
  held : (p : ℕ) → nat_abs (at after.currents p) ≤ most_coordinate
  held p =
      ⊎_elim (λ (h : p < length s.currents). by h (last_mover alone axis t es p t.len) refl (came p h))
      (λ (g : length s.currents ≤ p). let e = get_or-eq_default after.currents (pos 0) {n = p} (omega (arith, size.currents)) in rw e (omega arith))
      (lt-or-le p (length s.currents))
    where
      by : p < length s.currents → (l : Link) → last_mover alone axis t es p t.len ≡ l → Came snap axis s after p l
          → nat_abs (at after.currents p) ≤ most_coordinate
      by h None q r = rw r.current (coordinates-of most_coordinate s.currents tests.currents p)
      by h (Some k) q r =
          let f = last-mover alone axis t es p k q in
          let g = mover-at alone axis t es p f.segment k f.by in
          rw (is p k h q r) (tests.positions f.segment k f.below g.edge g.moving)

  -- it answers 0, or 8 where a point is too steep
  answers : (refusal (weak_tests o after.currents after.touched es) ≡ 0) ⊎ (refusal (weak_tests o after.currents after.touched es) ≡ steep)
  answers = by (gentle o after.currents after.touched es) refl
    where
      same_count : length o ≡ length s.currents
      same_count = ap (λ (l : List ℤ). length l) (sym ready.still)

      lists : refusal (list_tests o after.currents after.touched es) ≡ 0
      lists =
          no-refusal (list_tests o after.currents after.touched es) (
            le-leb (length o) most_points (omega (arith, same_count, tests.few)),
            (
              eq-eqb (length after.currents) (length o) (size.currents ∙ sym same_count),
              (
                eq-eqb (length after.touched) (length o) (size.marks ∙ tests.marks ∙ sym same_count),
                (subst (λ (n : ℕ). ends_hold 0 n es ≡ true) (sym same_count) tests.ends, refl),
              ),
            ),
          )

      numbers : (b : Bool) → b ≡ not (gentle o after.currents after.touched es)
          → refusal (weak_tests o after.currents after.touched es) ≡ cond b steep 0
      numbers b e =
          own_first (list_tests o after.currents after.touched es) (number_tests o after.currents after.touched es) refl
          ∙ worked (λ (k : ℕ). k) (refusal (number_tests o after.currents after.touched es))
          (refusal (list_tests o after.currents after.touched es)) lists
          ∙ number-steep o after.currents after.touched es b
          (subst (λ (l : List ℤ). coordinates_hold most_coordinate l ≡ true) ready.still tests.currents)
          (all-within most_coordinate after.currents held) e

      by : (b : Bool) → gentle o after.currents after.touched es ≡ b
          → (refusal (weak_tests o after.currents after.touched es) ≡ 0) ⊎ (refusal (weak_tests o after.currents after.touched es) ≡ steep)
      by true e = inl (numbers false (ap not (sym e)))
      by false e = inr (numbers true (ap not (sym e)))

  pub handed : (refusal (weak_tests o left.currents left.touched es) ≡ 0) ⊎ (refusal (weak_tests o left.currents left.touched es) ≡ steep)
  handed =
      subst (λ (x : Points). (refusal (weak_tests o x.currents x.touched es) ≡ 0) ⊎ (refusal (weak_tests o x.currents x.touched es) ≡ steep))
      (sym left_is) answers

  -- and weak points behind it, where it answers 0, points in order, where edges are
  module _ (d : List ℤ) (outcome : Outcome o left.currents left.touched es 0 d) where
    pub chain : EdgesInOrder axis → Gained axis o left.currents left.touched es d
    chain order = gained axis o left.currents d left.touched es order placed outcome

    -- and apart, where edges are
    pub chain-apart : EdgesApart axis → PointsApart o left.currents left.touched es d
    chain-apart apart = points-apart axis o left.currents d left.touched es (apart_in_order axis apart) placed outcome apart

    -- where done edges of one original position are at one position, there is no exception but request #109's
    pub never-parted : EdgesInOrder axis → OnePosition axis → (i p : ℕ) (b : Beside left.touched es i p) → Parted o left.currents b.by → ⊥
    never-parted order one i p b = not-parted axis o left.currents d left.touched es order placed outcome i p b one
