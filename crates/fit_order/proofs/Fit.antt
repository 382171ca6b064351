-- The theorem: where all edges are in order and originals and original positions are scaled by one scale, the touched points behind edge points and strong
-- points are in order; so they are
-- behind the calls on points in a row, and behind the one call.
use mathlib.Core.Path.{◌≡◌, refl, sym, ap, subst, ◌∙◌}
use mathlib.Core.Bool.{Bool, true}
use mathlib.Core.List.{List}
use mathlib.Core.Logic.{◌⊎◌, inl, inr, ⊎_elim}
use mathlib.Core.Option.{Option, some, none}
use Prim.Native.Nat.{ℕ, zero, suc, ◌*◌, ◌≤◌, ◌<◌}
use native.Mathlib.Omega.{arith}
use borrow.Author.Tests.{leb-true}
use lib.ListN.{length, get_or-eq_default}
use lib.IntN.{ℤ, pos, negsuc}
use lib.Signed.{le_z}
use Rattle.refusals.specs.Refusal.{refusal, answered}
use Rattle.refusals.proofs.Answers.{none-refused, worked}
use Rattle.refusals.proofs.Tests.{all_hold, and_first, and_second}
use Rattle.signed.proofs.Choices.{cond_cases}
use Rattle.signed.proofs.Signed.{lt-or-le}
use Rattle.signed.proofs.Order.{le-true}
use Rattle.axis.specs.declared.edge.Axis.{Axis}
use Rattle.axis.specs.declared.edge.Edge.{Edge}
use Rattle.axis.specs.declared.kinds.Dimension.TheVariants as Dimensions
use Rattle.axis.specs.declared.kinds.Direction.TheVariants as Directions
use Rattle.axis.specs.declared.segment.Segments.{Segments}
use Rattle.axis.specs.Handed.{Short}
use Rattle.axis.specs.Limits.{most_edges}
use Rattle.axis.specs.Refusals.{inside}
use Rattle.weak_contour.specs.Contour.{at, Contour, is_touched}
use Rattle.weak_contour.proofs.Points.{weak-touched}
use Rattle.weak_contour.proofs.Searches.{marked}
use Rattle.weak.specs.Weak.{contour_of, on_contour, aligned_at, weak_tests, result}
use Rattle.weak.proofs.Determined.{result-at}
use Rattle.weak.proofs.Refusals.{accepted}
use Rattle.edge_points.specs.EdgePoints.{Points, move_all, points_tests, edge_answer, edge_result}
use Rattle.words.specs.Edge.{edge_from, edge_size, flat_axis, axis_run}
use Rattle.words.specs.Field.{short_of}
use Rattle.words.specs.Segment.{flat_segments}
use Rattle.words.proofs.Places.{edge-read}
use Rattle.words_call.specs.Lent.{edges_of}
use Rattle.strong.specs.Strong.{Aligned, aligned_all, refused_by, align_strong, strong_tests}
use Rattle.strong.specs.Steps.{Rising, Shorts}
use Rattle.fit.specs.declared.numbers.Numbers.{Numbers}
use Rattle.fit.specs.Edges.{Left, fit_edges}
use Rattle.fit.specs.Points.{LeftPoints, halted, then_weak, then_strong, fit_points}
use Rattle.fit.specs.Fit.{Given, Fitted, fitted, told_words, refused_fit, behind_points, Outcome, fit_in_row, fit_tests, fit_axis}
use Rattle.fit_order.specs.Order.{AllInOrder, Scaled, Before, TouchedInOrder}
use Rattle.fit_order.proofs.Scales.{all-rise}
use Rattle.fit_order.proofs.Placed.{OnEdge, ByRule, Stood, two, on-edges, stood-or-put}

-- ---- edge points, and strong points behind them
-- font positions and positions of all edges, done or not, do not fall in the table; by one scale that is so of edges in order by original positions too
-- (`all-rise`)
module _ (scale : ℤ) (snap alone : Bool) (axis : Axis) (t : Segments) (f o : List ℤ) (s : Points) (w es : List ℕ) (rise : Rising axis) (short : Shorts axis)
    (scaled : Scaled scale axis f o)
    (before : Before snap alone axis t o s es) (yes : edge_answer alone axis t s es ≡ 0) where
  -- the points moved, and every point at its place
  abbrev pub moved : Points
  moved = move_all snap alone axis t es s

  abbrev pub aligned : Aligned
  aligned = aligned_all axis f o moved.currents moved.touched w

  -- points that edges moved are in order
  pub moved-in-order : TouchedInOrder o moved.currents moved.touched
  moved-in-order = record { rise = λ p q m n l. two scale axis f o moved.currents rise short scaled p q l (inl (on p m)) (inl (on q n)) }
    where
      on : (p : ℕ) → is_touched moved.touched p ≡ true → OnEdge axis o moved.currents p
      on p m = on-edges snap alone axis t o s es before yes p m

  -- and so are they and the strong points that are placed behind them
  pub aligned-in-order : TouchedInOrder o aligned.currents aligned.touched
  aligned-in-order = record { rise = λ p q m n l. two scale axis f o aligned.currents rise short scaled p q l (way p m) (way q n) }
    where
      by : (p : ℕ) → Stood moved.currents aligned.currents moved.touched p ⊎ ByRule axis f o aligned.currents p
          → OnEdge axis o aligned.currents p ⊎ ByRule axis f o aligned.currents p
      by p (inl r) =
          let e = on-edges snap alone axis t o s es before yes p r.mark in
          inl (record { edge = e.edge; there = e.there; was = e.was; is = r.is ∙ e.is })
      by p (inr r) = inr r

      way : (p : ℕ) → is_touched aligned.touched p ≡ true → OnEdge axis o aligned.currents p ⊎ ByRule axis f o aligned.currents p
      way p m = by p (stood-or-put axis f o moved.currents moved.touched w p m)

  -- so they are behind the two calls, whatever the second answers
  pub strong-in-order : let m =
      edge_result snap alone axis t s es in let a = align_strong axis f o m.currents m.touched w in TouchedInOrder o a.currents a.touched
  unfolding edge_result align_strong
  strong-in-order =
      subst (λ (m : Points). let a = align_strong axis f o m.currents m.touched w in TouchedInOrder o a.currents a.touched)
      (sym (worked (λ _. s) moved (edge_answer alone axis t s es) yes)) (by (refusal (strong_tests axis f o moved.currents moved.touched w)))
    where
      by : (k : ℕ) → let a = answered k (refused_by moved.currents moved.touched) aligned in TouchedInOrder o a.currents a.touched
      by zero = aligned-in-order
      by (suc k) = moved-in-order

-- ---- weak points behind them
module _ (o c : List ℤ) (t es : List ℕ) (yes : refusal (weak_tests o c t es) ≡ 0) where
  -- a touched point stays
  weak-stays : (p : ℕ) → is_touched t p ≡ true → at (result o c t es) p ≡ at c p
  unfolding aligned_at on_contour
  weak-stays p m = result-at o c t es yes p inside-it ∙ by (contour_of 0 es p) refl
    where
      inside-it : p < length c
      inside-it =
          let a = accepted o c t es yes in
          ⊎_elim (λ l. l) (λ (g : length c ≤ p). let z = get_or-eq_default t 0 {n = p} (omega (arith, a.marks_length, a.currents_length)) in absurd
          (omega (arith, marked t p m)))
          (lt-or-le p (length c))

      by : (k : Option Contour) → contour_of 0 es p ≡ k → aligned_at o c t es p ≡ at c p
      by none e = rw e
      by (some k) e = rw e (weak-touched o c t k p (marked t p m))

  -- so touched points in order stay in order
  pub weak-in-order : TouchedInOrder o c t → TouchedInOrder o (result o c t es) t
  weak-in-order h = record { rise = λ p q m n l. rw (weak-stays p m, weak-stays q n) (h.rise p q m n l) }

-- ---- the calls on points in a row
-- font positions of edges that words are read as are of 16 bits
short-of : (w : ℤ) → Short (short_of w)
unfolding short_of
short-of w =
    cond_cases Short (inside (negsuc 32767) (pos 32767) w) w (pos 0)
    (λ e. omega (arith, le-true (negsuc 32767) w (and_first (le_z (negsuc 32767) w) _ e), le-true w (pos 32767) (and_second (le_z (negsuc 32767) w) _ e)))
    (λ e. omega arith)

read_short : (ws : List ℤ) (i : ℕ) → Short (edge_from ws i).fpos
unfolding edge_from
read_short ws i = short-of _

edges-short : (ws : List ℤ) → (edges_of ws).len ≤ most_edges → Shorts (edges_of ws)
unfolding flat_axis axis_run
edges-short ws few i h = subst (λ (e : Edge). Short e.fpos) (sym (edge-read ws Dimensions.Horizontal Directions.None i h few)) (read_short ws (edge_size * i))

-- no more edges are accepted than a table holds
few-edges : (alone : Bool) (axis : Axis) (t : Segments) (s : Points) (es : List ℕ) → edge_answer alone axis t s es ≡ 0 → axis.len ≤ most_edges
unfolding edge_answer
few-edges alone axis t s es e = let h = all_hold (points_tests alone axis t s es) refl e in leb-true axis.len most_edges h.1.1.1.0

module _ (n : Numbers) (ss ws f o : List ℤ) (w es : List ℕ) (s : Points) where
  -- the segments and the fitted edges, what edge points leaves, what strong points behind it leaves, and its points
  abbrev T : Segments
  T = flat_segments ss

  abbrev A : Axis
  A = edges_of ws

  abbrev edged : Points
  edged = edge_result n.snap n.alone A T s es

  abbrev strong : Aligned
  strong = align_strong A f o edged.currents edged.touched w

  abbrev strung : Points
  strung = record { currents = strong.currents; touched = strong.touched }

  -- answer 0 says that no call refused, and the points are those that weak points leaves
  record Row : Type 0 where
    edges : edge_answer n.alone A T s es ≡ 0
    weak : refusal (weak_tests o strong.currents strong.touched es) ≡ 0
    points : (fit_points n ss ws f o w es s).points ≡ (then_weak o es strung).points

  row : (fit_points n ss ws f o w es s).answer ≡ 0 → Row
  unfolding fit_points then_strong
  row z =
      let behind = then_strong ws f o w es edged in
      let edges = none-refused (halted s) behind (λ (r : LeftPoints). r.answer) (λ j. refl) (edge_answer n.alone A T s es) z in
      let first = worked (halted s) behind (edge_answer n.alone A T s es) edges in
      let placed = none-refused (halted edged) (then_weak o es strung) (λ (r : LeftPoints). r.answer) (λ j. refl) strong.answer
      (ap (λ (r : LeftPoints). r.answer) (sym first) ∙ z) in
      let all = first ∙ worked (halted edged) (then_weak o es strung) strong.answer placed in
      record { edges = edges; weak = ap (λ (r : LeftPoints). r.answer) (sym all) ∙ z; points = ap (λ (r : LeftPoints). r.points) all }

  -- where the calls in a row answer 0 the touched points that they leave are in order
  pub points-in-order : (scale : ℤ) → Rising A → Scaled scale A f o → Before n.snap n.alone A T o s es
      → let r = fit_points n ss ws f o w es s in r.answer ≡ 0 → TouchedInOrder o r.points.currents r.points.touched
  points-in-order scale rise scaled before z =
      let r = row z in
      let short = edges-short ws (few-edges n.alone A T s es r.edges) in
      subst (λ (x : Points). TouchedInOrder o x.currents x.touched) (sym r.points)
      (weak-in-order o strong.currents strong.touched es r.weak
      (strong-in-order scale n.snap n.alone A T f o s w es rise short scaled before r.edges))

-- ---- the one call
module _ (n : Numbers) (g : Given) (l : Fitted) where
  -- the edges fitted, and the points behind them
  abbrev e : Left
  e = fit_edges n g.standards l.edges

  abbrev points : LeftPoints
  points = fit_points n g.segments e.words g.fonts g.originals g.weak g.ends l.points

  -- answer 0 says that the points are not refused, and what is left
  record Whole : Type 0 where
    answer : points.answer ≡ 0
    left : (fit_axis n g l).left ≡ fitted e.words points.points (told_words e.told)

  whole : (fit_axis n g l).answer ≡ 0 → Whole
  unfolding fit_axis fit_in_row
  whole z =
      let done : Outcome = record { answer = 0; left = fitted e.words points.points (told_words e.told) } in
      let k = refusal (fit_tests n g l) in
      let tests = none-refused (refused_fit l) (fit_in_row n g l) (λ (r : Outcome). r.answer) (λ j. refl) k z in
      let first = worked (refused_fit l) (fit_in_row n g l) k tests in
      let edges = none-refused (refused_fit l) (behind_points l e points) (λ (r : Outcome). r.answer) (λ j. refl) e.told.answer
      (ap (λ (r : Outcome). r.answer) (sym first) ∙ z) in
      let second = first ∙ worked (refused_fit l) (behind_points l e points) e.told.answer edges in
      let last = none-refused (refused_fit l) done (λ (r : Outcome). r.answer) (λ j. refl) points.answer
      (ap (λ (r : Outcome). r.answer) (sym second) ∙ z) in
      record { answer = last; left = ap (λ (r : Outcome). r.left) (second ∙ worked (refused_fit l) done points.answer last) }

  -- where it answers 0, and the edges that it leaves are all in order, so are the touched points
  pub fit-in-order : (scale : ℤ) → let r = fit_axis n g l in let A = edges_of r.left.edges in
      Rising A → Scaled scale A g.fonts g.originals → Before n.snap n.alone A (flat_segments g.segments) g.originals l.points g.ends
      → r.answer ≡ 0 → TouchedInOrder g.originals r.left.points.currents r.left.points.touched
  fit-in-order scale rise scaled before z =
      let h = whole z in
      let same : (fit_axis n g l).left.edges ≡ e.words = ap (λ (x : Fitted). x.edges) h.left in
      subst (λ (x : Fitted). TouchedInOrder g.originals x.points.currents x.points.touched) (sym h.left)
      (points-in-order n g.segments e.words g.fonts g.originals g.weak g.ends l.points scale
      (subst (λ (ws : List ℤ). Rising (edges_of ws)) same rise)
      (subst (λ (ws : List ℤ). Scaled scale (edges_of ws) g.fonts g.originals) same scaled)
      (subst (λ (ws : List ℤ). Before n.snap n.alone (edges_of ws) (flat_segments g.segments) g.originals l.points g.ends) same before)
      h.answer)

  -- the same of edges in order by their original positions, those of one original position at one position
  pub fit-by-originals : (scale : ℤ) → let r = fit_axis n g l in let A = edges_of r.left.edges in
      AllInOrder A → Scaled scale A g.fonts g.originals → Before n.snap n.alone A (flat_segments g.segments) g.originals l.points g.ends
      → r.answer ≡ 0 → TouchedInOrder g.originals r.left.points.currents r.left.points.touched
  fit-by-originals scale order scaled before z =
      fit-in-order scale (all-rise scale (edges_of (fit_axis n g l).left.edges) g.fonts g.originals scaled order) scaled before z
