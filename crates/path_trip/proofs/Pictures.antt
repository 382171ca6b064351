-- A contour's steps are the picture of its legs.
use mathlib.Core.Path.{◌≡◌, refl, ap, ◌∙◌}
use mathlib.Core.Bool.{Bool, true, false, cond}
use mathlib.Core.List.{List, [], ◌∷◌, ◌++◌}
use Prim.Native.Nat.{ℕ, suc, ◌-◌}
use Rattle.path_trip.specs.declared.step.PathStep.{PathStep}
use Rattle.path_trip.specs.declared.step.PathStep.TheVariants.{Move, Line, Curve, Close}
use Rattle.path_trip.specs.Path.{Points, place, middle, on_curve, from, front, rest, round_by, round_of, curve_end, walked, steps_of}
use Rattle.path_trip.specs.declared.tour.Spot.{Spot}
use Rattle.path_trip.specs.declared.tour.Spot.TheVariants.{Point, Between}
use Rattle.path_trip.specs.Legs.{line, curve, spot_place, pictures, curve_to, legs, tour_by, tour_of, picture_of}

module _ (o : Points) (start : Spot) where
  -- where a curve ends
  curve-end : (i : ℕ) (is : List ℕ) → curve_end o (spot_place o start) i is ≡ spot_place o (curve_to o start i is)
  unfolding curve_end curve_to
  curve-end i [] = refl
  curve-end i (j ∷ js) = by (on_curve o j)
    where
      by : (b : Bool) → cond b (place o j) (middle o i j) ≡ spot_place o (cond b (Point j) (Between i j))
      by true = refl
      by false = refl

  -- the steps of a walk
  walk_is : (on : Bool) (w : List ℕ) → walked o (spot_place o start) on w ≡ pictures o (legs o start on w) ++ (Close ∷ [])
  unfolding walked legs pictures
  walk_is on [] = refl
  walk_is on (i ∷ is) = by (on_curve o i) on (walk_is true is) (walk_is false is)
    where
      by : (b c : Bool)
          → walked o (spot_place o start) true is ≡ pictures o (legs o start true is) ++ (Close ∷ [])
          → walked o (spot_place o start) false is ≡ pictures o (legs o start false is) ++ (Close ∷ [])
          → cond b (cond c (Line (place o i) ∷ walked o (spot_place o start) true is) (walked o (spot_place o start) true is))
          (Curve (place o i) (curve_end o (spot_place o start) i is) ∷ walked o (spot_place o start) false is)
          ≡ pictures o (cond b (cond c (line i ∷ legs o start true is) (legs o start true is)) (curve i (curve_to o start i is) ∷ legs o start false is))
          ++ (Close ∷ [])
      by true true p q = ap (λ (l : List PathStep). Line (place o i) ∷ l) p
      by true false p q = p
      by false c p q = λ k. Curve (place o i) (curve-end i is k) ∷ q k

-- the start and the walk of a contour
round_is : (o : Points) (a e : ℕ) (before l : List ℕ) → round_by o a e before l ≡ record {
  start =
      spot_place o (tour_by a e before l).start;
  walk = (tour_by a e before l).walk;
}
unfolding round_by tour_by
round_is o a e before [] = refl
round_is o a e before (f ∷ behind) = refl

-- the steps of a contour
pub steps-are : (o : Points) (a e : ℕ) → steps_of o (round_of o a e) ≡ picture_of o (tour_of o a e)
unfolding steps_of round_of tour_of
steps-are o a e =
    let f = front o (from a (suc e - a)) in
    let r = rest o (from a (suc e - a)) in
    ap (steps_of o) (round_is o a e f r) ∙ ap (λ (l : List PathStep). Move (spot_place o (tour_by a e f r).start) ∷ l)
    (walk_is o (tour_by a e f r).start true (tour_by a e f r).walk)

-- and its start and walk
pub round-of : (o : Points) (a e : ℕ) → round_of o a e ≡ record { start = spot_place o (tour_of o a e).start; walk = (tour_of o a e).walk }
unfolding round_of tour_of
round-of o a e = round_is o a e (front o (from a (suc e - a))) (rest o (from a (suc e - a)))
