-- One step of a walk: the steps from a point on are its step and those from the next point that gives one.
use mathlib.Core.Path.{◌≡◌, refl, sym, ap, ◌∙◌}
use mathlib.Core.Bool.{Bool, true, false, cond}
use mathlib.Core.List.{List, [], ◌∷◌}
use Prim.Native.Nat.{ℕ, ◌+◌, ◌≤◌, ◌<◌}
use native.Mathlib.Omega.{arith}
use lib.ListN.{length, drop}
use lib.Seq.{drop-drop}
use Rattle.path_places.specs.declared.PixelPoint.{PixelPoint}
use Rattle.path_trip.specs.declared.step.PathStep.TheVariants.{Line, Curve}
use Rattle.path_trip.specs.Path.{Points, place, on_curve, curve_end, walked}
use Rattle.path_trip.specs.Trips.{around, Walk}
use Rattle.path_walk.specs.declared.walk.End.{End}
use Rattle.path_walk.specs.declared.walk.End.TheVariants.{Start, Point, Between}
use Rattle.path_walk.specs.Steps.{end_of, end_place}
use Rattle.path_walk.proofs.Seeks.{one_more}

-- how many of the points behind a curve's are passed with it: an on-curve point that ends it gives no step
abbrev pub passed : End → ℕ
passed Start = 0
passed (Point k) = 1
passed (Between i k) = 0

module _ (o : Points) (start : PixelPoint) where
  -- a line to an on-curve point
  line-turn : (i : ℕ) (is : List ℕ) → on_curve o i ≡ true → walked o start true (i ∷ is) ≡ Line (place o i) ∷ walked o start true is
  unfolding walked
  line-turn i is q = rw q

  -- a curve by an off-curve point, to its end
  curve-more : (i k : ℕ) (is : List ℕ) (b : Bool) → on_curve o i ≡ false → on_curve o k ≡ b
      → walked o start true (i ∷ k ∷ is) ≡ Curve (place o i) (end_place o start (end_of o i (k ∷ is)))
      ∷ walked o start true (drop (passed (end_of o i (k ∷ is))) (k ∷ is))
  unfolding walked curve_end end_of
  curve-more i k is true q h = rw (q, h)
  curve-more i k is false q h = rw (q, h) (rw h)

  curve-turn : (i : ℕ) (is : List ℕ) → on_curve o i ≡ false
      → walked o start true (i ∷ is) ≡ Curve (place o i) (end_place o start (end_of o i is)) ∷ walked o start true (drop (passed (end_of o i is)) is)
  unfolding walked curve_end end_of
  curve-turn i [] q = rw q
  curve-turn i (k ∷ is) q = curve-more i k is (on_curve o k) q refl

  -- there is always a step left, the close at least
  pub some_left : (is : List ℕ) → 1 ≤ length (walked o start true is)
  unfolding walked
  some_left [] = omega arith
  some_left (i ∷ is) = by (on_curve o i)
    where
      by : (b : Bool) → 1 ≤ length (cond b (Line (place o i) ∷ walked o start true is) (Curve (place o i) (curve_end o start i is) ∷ walked o start false is))
      by true = omega arith
      by false = omega arith

  module _ (w : List ℕ) (a e s n : ℕ) (t : Walk w a e s n) (j i : ℕ) (l : j < n) (p : i ≡ around a e (s + j)) where
    -- the point, and those behind it
    here : drop j w ≡ i ∷ drop (j + 1) w
    here = one_more w a e s n t j l ∙ ap (λ (x : ℕ). x ∷ drop (j + 1) w) (sym p)

    pub line-left : on_curve o i ≡ true → walked o start true (drop j w) ≡ Line (place o i) ∷ walked o start true (drop (j + 1) w)
    line-left q = ap (walked o start true) here ∙ line-turn i (drop (j + 1) w) q

    pub curve-left : (x : End) → on_curve o i ≡ false → x ≡ end_of o (around a e (s + j)) (drop (j + 1) w)
        → walked o start true (drop j w) ≡ Curve (place o i) (end_place o start x) ∷ walked o start true (drop (passed x) (drop (j + 1) w))
    curve-left x q h =
        ap (walked o start true) here ∙ curve-turn i (drop (j + 1) w) q
        ∙ ap (λ (z : End). Curve (place o i) (end_place o start z) ∷ walked o start true (drop (passed z) (drop (j + 1) w)))
        (ap (λ (k : ℕ). end_of o k (drop (j + 1) w)) p ∙ sym h)

-- the point behind the next
pub one_further : (j : ℕ) (w : List ℕ) → drop 1 (drop (j + 1) w) ≡ drop (j + 2) w
one_further j w = let y : j + 1 + 1 ≡ j + 2 = omega arith in drop-drop 1 (j + 1) w ∙ ap (λ (k : ℕ). drop k w) y
