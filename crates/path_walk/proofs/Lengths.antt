-- How long a path is: at most points + 2 · contours steps, so that a cursor never runs out of numbers.
use mathlib.Core.Path.{◌≡◌, refl, ◌∙◌}
use mathlib.Core.Bool.{Bool, true, false, cond, ◌&&◌}
use mathlib.Core.List.{List, [], ◌∷◌}
use Prim.Native.Nat.{ℕ, suc, ◌+◌, ◌-◌, ◌*◌, ◌≤◌}
use native.Mathlib.Omega.{arith}
use borrow.Author.Tests.{leb-true, ltb-true}
use lib.Dec.{leb, ltb}
use lib.ListN.{length, length-append}
use Rattle.refusals.proofs.Tests.{and_first, and_second}
use Rattle.weak_contour.specs.Limits.{most_points}
use Rattle.weak.specs.Weak.{ends_hold}
use Rattle.path_places.specs.declared.PixelPoint.{PixelPoint}
use Rattle.path_trip.specs.declared.step.PathStep.{PathStep}
use Rattle.path_trip.specs.Path.{Points, on_curve, from, front, rest, Round, round_by, round_of, walked, steps_of, path_from, path}
use Rattle.path_trip.specs.Trips.{Admitted}
use Rattle.path_trip.proofs.Walks.{length_from}

module _ (o : Points) where
  parts : (l : List ℕ) → length (front o l) + length (rest o l) ≡ length l
  unfolding front rest
  parts [] = refl
  parts (i ∷ l) = by (on_curve o i) (parts l)
    where
      by : (b : Bool) → length (front o l) + length (rest o l) ≡ length l
          → length (cond b [] (i ∷ front o l)) + length (cond b (i ∷ l) (rest o l)) ≡ suc (length l)
      by true e = omega arith
      by false e = omega arith

  round-by : (a e : ℕ) (before behind : List ℕ) → length before + length behind ≡ suc e - a → length (round_by o a e before behind).walk ≤ suc e - a
  unfolding round_by
  round-by a e before [] h = omega (arith, length_from a (suc e - a))
  round-by a e before (f ∷ behind) h = omega (arith, length-append behind before)

  pub round-short : (a e : ℕ) → length (round_of o a e).walk ≤ suc e - a
  unfolding round_of
  round-short a e = round-by a e _ _ (parts (from a (suc e - a)) ∙ length_from a (suc e - a))

  picked : (b c : Bool) (x y z : List PathStep) (m : ℕ) → length x ≤ m → length y ≤ m → length z ≤ m → length (cond b (cond c x y) z) ≤ m
  picked true true x y z m p q r = p
  picked true false x y z m p q r = q
  picked false c x y z m p q r = r

  walked-short : (start : PixelPoint) (on : Bool) (w : List ℕ) → length (walked o start on w) ≤ length w + 1
  unfolding walked
  walked-short start on [] = omega arith
  walked-short start on (i ∷ w) =
      picked (on_curve o i) on _ _ _ _ (omega (arith, walked-short start true w)) (omega (arith, walked-short start true w))
      (omega (arith, walked-short start false w))

  steps-short : (r : Round) → length (steps_of o r) ≤ length r.walk + 2
  unfolding steps_of
  steps-short r = omega (arith, walked-short r.start true r.walk)

  -- the contours with these ends, the first from a on
  pub path-short : (n a : ℕ) (es : List ℕ) → ends_hold a n es ≡ true → length (path_from o a es) ≤ (n - a) + 2 * length es
  unfolding path_from ends_hold
  path-short n a [] h = omega arith
  path-short n a (e ∷ es) h =
      let p = and_second (leb a e) (ltb e n && ends_hold (suc e) n es) h in
      let q = and_second (ltb e n) (ends_hold (suc e) n es) p in
      let low = leb-true a e (and_first (leb a e) (ltb e n && ends_hold (suc e) n es) h) in
      let high = ltb-true e n (and_first (ltb e n) (ends_hold (suc e) n es) p) in
      omega (arith, length-append (steps_of o (round_of o a e)) (path_from o (suc e) es), path-short n (suc e) es q, steps-short (round_of o a e), round-short a e)

-- no more contours than points
ends-few : (n a : ℕ) (es : List ℕ) → ends_hold a n es ≡ true → length es ≤ n - a
unfolding ends_hold
ends-few n a [] h = omega arith
ends-few n a (e ∷ es) h =
    let p = and_second (leb a e) (ltb e n && ends_hold (suc e) n es) h in
    let low = leb-true a e (and_first (leb a e) (ltb e n && ends_hold (suc e) n es) h) in
    let high = ltb-true e n (and_first (ltb e n) (ends_hold (suc e) n es) p) in
    omega (arith, ends-few n (suc e) es (and_second (ltb e n) (ends_hold (suc e) n es) p))

-- the path of an outline whose ends hold: at most points + 2 · contours steps
pub at_most : (o : Points) (es : List ℕ) → ends_hold 0 (length o.xs) es ≡ true → length (path o es) ≤ length o.xs + 2 * length es
unfolding path
at_most o es h = omega (arith, path-short o (length o.xs) 0 es h)

-- and so at most three a point
pub whole-short : (o : Points) (es : List ℕ) → Admitted o → ends_hold 0 (length o.xs) es ≡ true → length (path o es) ≤ 3 * most_points
whole-short o es s h = omega (arith, at_most o es h, ends-few (length o.xs) 0 es h, s.few)
