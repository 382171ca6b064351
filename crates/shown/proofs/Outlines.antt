-- The lines of an outline, contour by contour: what holds of the places of its spots and curves holds of all its places; sums over its lines. Assumes nothing.
use mathlib.Core.Path.{◌≡◌, refl, sym, ap, ◌∙◌, subst}
use mathlib.Core.Bool.{true}
use mathlib.Core.List.{List, [], ◌∷◌, ◌++◌}
use Prim.Native.Nat.{ℕ, suc, ◌+◌, ◌-◌, ◌*◌, ◌≤◌}
use native.Mathlib.Omega.{arith}
use lib.IntN.{ℤ}
use Rattle.weak.specs.Weak.{ends_hold}
use Rattle.path_trip.specs.Path.{Points, points}
use Rattle.path_trip.specs.Legs.{Leg, Tour, tour_of, legs_of}
use Rattle.shown.specs.Shown.{Place, Side, spot_at, places, lines_by, contour_lines, lines_of}
use Rattle.shown.proofs.Tours.{first-end, tour-inside, legs-inside, legs-few, walk-few, tour-same, legs-same}
use Rattle.shown.proofs.Places.{Alike, Placed, places-alike, places-few}
use Rattle.shown.proofs.Places.{none as alone, more as beside}
use Rattle.shown.proofs.Tallies.{tally, tally-append, rise_at, fall_at, chain-even, chain-few}

-- closed chains one behind the other, of two outlines, or of one, side by side
pub data Contours (R : Place → Place → Type 0) : List Side → List Side → Type 0 where
  none : Contours R [] []
  more : {s s' : Place} {qs qs' : List Place} {ss ss' : List Side} → R s s' → Alike R qs qs' → Contours R ss ss'
      → Contours R (lines_by s s qs ++ ss) (lines_by s' s' qs' ++ ss')

-- ---- the lines of outlines with the same marks
module _ (half m : ℕ) (xs ys xs' ys' : List ℤ) (t : List ℕ) (n : ℕ) (R : Place → Place → Type 0)
    (h : Placed half m (points xs ys t) (points xs' ys' t) n R) where
  abbrev o : Points
  o = points xs ys t

  abbrev o' : Points
  o' = points xs' ys' t

  abbrev lines_over : Tour → List Leg → List Side
  lines_over r ls = lines_by (spot_at half m o' r.start) (spot_at half m o' r.start) (places half m o' r.start ls)

  contour-same : (a e : ℕ) → contour_lines half m o' (tour_of o' a e) ≡ lines_over (tour_of o a e) (legs_of o (tour_of o a e))
  contour-same a e =
      let r = tour_of o a e in
      ap (λ (z : Tour). contour_lines half m o' z) (tour-same xs ys xs' ys' t a e)
      ∙ ap (λ (z : List Leg). lines_over r z) (legs-same xs ys xs' ys' t r.start true r.walk)

  pub outline-contours : (a : ℕ) (es : List ℕ) → ends_hold a n es ≡ true → Contours R (lines_of half m o a es) (lines_of half m o' a es)
  unfolding lines_of
  outline-contours a [] k = none
  outline-contours a (e ∷ es) k =
      let f = first-end a n e es k in
      let r = tour_of o a e in
      let i = tour-inside n o a e f.low f.high in
      subst (λ (z : List Side). Contours R (contour_lines half m o r ++ lines_of half m o (suc e) es) (z ++ lines_of half m o' (suc e) es))
      (sym (contour-same a e))
      (more
      (h.spots r.start i.0)
      (places-alike half m o o' n R h r.start (legs_of o r) i.0 (legs-inside n o r.start i.0 true r.walk i.1))
      (outline-contours (suc e) es f.others))

-- ---- sums that are the same of lines side by side
module _ (R : Place → Place → Type 0) (f f' : Place → Place → ℕ) (each : (l h l' h' : Place) → R l l' → R h h' → f' l' h' ≡ f l h) where
  chain_same : (start start' p p' : Place) (qs qs' : List Place) → R start start' → R p p' → Alike R qs qs'
      → tally f' (lines_by start' p' qs') ≡ tally f (lines_by start p qs)
  unfolding lines_by tally
  chain_same start start' p p' qs qs' s h alone = omega (arith, each p start p' start' h s)
  chain_same start start' p p' qs qs' s h (beside {p = q} {q = q'} {ps = rs} {qs = rs'} k t) =
      omega (arith, each p q p' q' h k, chain_same start start' q q' rs rs' s k t)

  pub contours-same : (ss ss' : List Side) → Contours R ss ss' → tally f' ss' ≡ tally f ss
  unfolding tally
  contours-same ss ss' none = refl
  contours-same ss ss' (more {s = s} {s' = s'} {qs = qs} {qs' = qs'} {ss = ts} {ss' = ts'} p a c) =
      omega (arith, tally-append f (lines_by s s qs) ts, tally-append f' (lines_by s' s' qs') ts', chain_same s s' s s' qs qs' p p a, contours-same ts ts' c)

-- ---- how often the lines of an outline go over a height
module _ (half m : ℕ) (o : Points) (y : ℕ) where
  -- up as often as down
  pub outline-even : (a : ℕ) (es : List ℕ) → tally (rise_at y) (lines_of half m o a es) ≡ tally (fall_at y) (lines_of half m o a es)
  unfolding lines_of tally
  outline-even a [] = refl
  outline-even a (e ∷ es) =
      let r = tour_of o a e in
      let s = contour_lines half m o r in
      omega (
        arith,
        tally-append (rise_at y) s (lines_of half m o (suc e) es),
        tally-append (fall_at y) s (lines_of half m o (suc e) es),
        chain-even (spot_at half m o r.start) y (places half m o r.start (legs_of o r)),
        outline-even (suc e) es,
      )

  -- a contour of k points has at most 16 k + 1 lines
  contour-few : (a e : ℕ) → 2 * tally (rise_at y) (contour_lines half m o (tour_of o a e)) ≤ 1 + 16 * (suc e - a)
  contour-few a e =
      let r = tour_of o a e in
      omega (
        arith,
        chain-few (spot_at half m o r.start) y (places half m o r.start (legs_of o r)),
        places-few half m o r.start (legs_of o r),
        legs-few o r.start true r.walk,
        walk-few o a e,
      )

  pub outline-few : (n a : ℕ) (es : List ℕ) → ends_hold a n es ≡ true → 2 * tally (rise_at y) (lines_of half m o a es) ≤ 17 * (n - a)
  unfolding lines_of tally
  outline-few n a [] h = omega arith
  outline-few n a (e ∷ es) h =
      let f = first-end a n e es h in
      omega (
        arith,
        f.low,
        f.high,
        tally-append (rise_at y) (contour_lines half m o (tour_of o a e)) (lines_of half m o (suc e) es),
        contour-few a e,
        outline-few n (suc e) es f.others,
      )
