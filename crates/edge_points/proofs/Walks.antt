-- The walk of a segment: the contour that is found, and its points moved in one run or two.
use mathlib.Core.Path.{◌≡◌, refl, sym, ap, subst, ◌∙◌}
use mathlib.Core.Bool.{Bool, ◌&&◌}
use mathlib.Core.List.{List}
use mathlib.Core.Option.{Option, some, none}
use Prim.Native.Nat.{ℕ, ◌+◌, ◌-◌, ◌≤◌, ◌<◌}
use native.Mathlib.Numerals.{add-one}
use native.Mathlib.Omega.{arith}
use borrow.Author.Tests.{le-ltb, le-leb}
use lib.Dec.{leb, ltb}
use lib.ListN.{length, get_or, drop, drop_of_length-le}
use lib.IntN.{ℤ}
use Rattle.signed.specs.Range.{Between}
use Rattle.axis.specs.declared.edge.Edge.{Edge}
use Rattle.weak_contour.specs.Limits.{most_points}
use Rattle.weak_contour.specs.Contour.{at, Contour}
use Rattle.weak.specs.Weak.{contour_of}
use Rattle.weak.proofs.Contours.{contour-here, contour-later}
use Rattle.edge_points.specs.EdgePoints.{Points, move_points, walked, is_on}
use Rattle.edge_points.specs.declared.contour.Stretch.{Stretch}
use Rattle.edge_points.specs.Steps.{most_reach, Reach, Room, points, run, stretch_of, contour_in, Around}
use Rattle.edge_points.proofs.Runs.{walk-straight, walk-around, run-below}
use Rattle.edge_points.proofs.Moves.{currents_long, marks_long, current-kept, moved-both}

-- ---- the search for a contour
module _ (es : List ℕ) (p s k : ℕ) (q : contour_of 0 es p ≡ contour_of s (drop k es) p) where
  -- it ends here
  pub found_here : (last : ℕ) → last ≡ get_or es k 0 → k < length es → p ≤ last → record { start = s; end = last + 1 } ≡ stretch_of (contour_of 0 es p)
  unfolding stretch_of
  found_here last e h l =
      sym (ap stretch_of (q ∙ contour-here s es k p h (omega arith))
      ∙ ap (λ (x : ℕ). record { start = s; end = x }) (sym (add-one (get_or es k 0)) ∙ ap (λ (x : ℕ). x + 1) (sym e)))

  -- it goes on
  pub found-later : (last : ℕ) → last ≡ get_or es k 0 → k < length es → last < p → contour_of 0 es p ≡ contour_of (last + 1) (drop (k + 1) es) p
  found-later last e h l =
      q ∙ contour-later s es k p h (omega arith) ∙ ap (λ (x : ℕ). contour_of x (drop (k + 1) es) p) (sym (add-one (get_or es k 0)) ∙ ap (λ (x : ℕ). x + 1) (sym e))

  -- there is none
  pub found_none : length es ≤ k → record { start = 0; end = 0 } ≡ stretch_of (contour_of 0 es p)
  unfolding stretch_of contour_of
  found_none h = sym (ap stretch_of (q ∙ ap (λ (xs : List ℕ). contour_of s xs p) (drop_of_length-le es h)))

-- a point is on it
pub on-stretch : (k : Option Contour) (q : ℕ) → (leb (stretch_of k).start q && ltb q (stretch_of k).end) ≡ is_on k q
unfolding stretch_of is_on
on-stretch none q = rw (le-leb 0 q (omega arith), le-ltb q 0 (omega arith))
on-stretch (some k) q = refl

-- ---- points moved in runs
module _ (snap : Bool) (e : Edge) (c : List ℤ) (t : List ℕ) (c' : List ℤ) (t' : List ℕ) (p n : ℕ)
    (q : points c' t' ≡ move_points snap e (run p n) (points c t)) where
  pub run_long : length c' ≡ length c
  run_long = ap (λ (s : Points). length s.currents) q ∙ currents_long snap e (run p n) (points c t)

  pub run-marks : length t' ≡ length t
  run-marks = ap (λ (s : Points). length s.touched) q ∙ marks_long snap e (run p n) (points c t)

  -- the points in front of a run have not moved
  pub run_room : (from to : ℕ) → to ≤ p → Reach most_reach c → Room c' from to
  run_room from to h r i l g =
      subst (Between most_reach most_reach) (sym (ap (λ (s : Points). at s.currents i) q
      ∙ current-kept snap e (run p n) (points c t) i (run-below n p i (omega arith)))) (r i)

module _ (snap : Bool) (e : Edge) (k : Stretch) (first last n : ℕ) (a : Around k first last n) (s : Points) where
  -- one, where the last is not in front of the first
  pub walk-forward : first ≤ last → (x : Points) → x ≡ move_points snap e (run first (last + 1 - first)) s
      → x ≡ move_points snap e (walked (contour_in k) first last) s
  walk-forward h x q =
      q ∙ ap (λ (ps : List ℕ). move_points snap e ps s)
      (sym (walk-straight (contour_in k) first last most_points h a.to_high (omega (arith, a.inside, a.few))))

  -- two, where it is
  pub walk-seam : last < first → (x y : Points) → x ≡ move_points snap e (run first (k.end - first)) s
      → y ≡ move_points snap e (run k.start (last + 1 - k.start)) x
      → y ≡ move_points snap e (walked (contour_in k) first last) s
  walk-seam h x y q r =
      r ∙ ap (move_points snap e (run k.start (last + 1 - k.start))) q
      ∙ sym (moved-both snap e (run first (k.end - first)) (run k.start (last + 1 - k.start)) s)
      ∙ ap (λ (ps : List ℕ). move_points snap e ps s)
      (sym (walk-around (contour_in k) first last most_points a.to_low h a.from_high (omega (arith, a.inside, a.few))))
