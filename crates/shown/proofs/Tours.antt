-- A contour goes by its own points; where it goes is told by the marks alone; and it has no more legs than points. Assumes nothing.
use mathlib.Core.Path.{◌≡◌, refl, ap}
use mathlib.Core.Bool.{Bool, true, false, cond, ◌&&◌}
use mathlib.Core.List.{List, [], ◌∷◌, ◌++◌}
use Prim.Native.Nat.{ℕ, zero, suc, ◌+◌, ◌-◌, ◌≤◌, ◌<◌}
use native.Mathlib.Omega.{arith}
use borrow.Author.Tests.{leb-true, ltb-true}
use lib.Dec.{leb, ltb}
use lib.ListN.{length}
use lib.IntN.{ℤ}
use Rattle.refusals.proofs.Tests.{and_first, and_second}
use Rattle.weak.specs.Weak.{ends_hold}
use Rattle.path_trip.specs.Path.{Points, points, on_curve, from, front, rest, Round}
use Rattle.path_trip.specs.declared.tour.Spot.{Spot}
use Rattle.path_trip.specs.declared.tour.Spot.TheVariants.{Point, Between}
use Rattle.path_trip.specs.Legs.{Leg, line, curve, curve_to, legs, tour_by, tour_of}
use Rattle.path_trip.specs.Trips.{Inside}
use Rattle.path_trip.proofs.Pictures.{round-of}
use Rattle.path_walk.proofs.Lengths.{round-short}

-- every number of the list is below n
abbrev pub Below : ℕ → List ℕ → Type 0
Below n [] = true ≡ true
Below n (i ∷ is) = (i < n) × Below n is

-- every leg is one of points below n
abbrev pub LegsBelow : ℕ → List Leg → Type 0
LegsBelow n [] = true ≡ true
LegsBelow n (line i ∷ ls) = (i < n) × LegsBelow n ls
LegsBelow n (curve i q ∷ ls) = (i < n) × Inside n q × LegsBelow n ls

-- the first of the ends is one of a contour from a on, of points below n, and the others are behind it
pub record FirstEnd (a n e : ℕ) (es : List ℕ) : Type 0 where
  pub low : a ≤ e
  pub high : e < n
  pub others : ends_hold (suc e) n es ≡ true

pub first-end : (a n e : ℕ) (es : List ℕ) → ends_hold a n (e ∷ es) ≡ true → FirstEnd a n e es
unfolding ends_hold
first-end a n e es h =
    let p = and_second (leb a e) (ltb e n && ends_hold (suc e) n es) h in
    record {
      low = leb-true a e (and_first (leb a e) (ltb e n && ends_hold (suc e) n es) h);
      high = ltb-true e n (and_first (ltb e n) (ends_hold (suc e) n es) p);
      others = and_second (ltb e n) (ends_hold (suc e) n es) p;
    }

-- ---- lists of points below n
module _ (n : ℕ) where
  pub below-from : (a k : ℕ) → a + k ≤ n → Below n (from a k)
  unfolding from
  below-from a zero h = refl
  below-from a (suc k) h = (omega arith, below-from (suc a) k (omega arith))

  below-append : (is js : List ℕ) → Below n is → Below n js → Below n (is ++ js)
  below-append [] js h k = k
  below-append (i ∷ is) js h k = (h.0, below-append is js h.1 k)

  module _ (o : Points) where
    below-front : (is : List ℕ) → Below n is → Below n (front o is)
    unfolding front
    below-front [] h = refl
    below-front (i ∷ is) h = by (on_curve o i) (below-front is h.1)
      where
        by : (b : Bool) → Below n (front o is) → Below n (cond b [] (i ∷ front o is))
        by true k = refl
        by false k = (h.0, k)

    below_rest : (is : List ℕ) → Below n is → Below n (rest o is)
    unfolding rest
    below_rest [] h = refl
    below_rest (i ∷ is) h = by (on_curve o i) (below_rest is h.1)
      where
        by : (b : Bool) → Below n (rest o is) → Below n (cond b (i ∷ is) (rest o is))
        by true k = h
        by false k = k

  -- ---- a contour's start and walk
  tour-below : (a e : ℕ) (before l : List ℕ) → a ≤ e → e < n → Below n before → Below n l
      → Inside n (tour_by a e before l).start × Below n (tour_by a e before l).walk
  unfolding tour_by
  tour-below a e before [] p q h k = ((q, omega arith), below-from a (suc e - a) (omega arith))
  tour-below a e before (f ∷ behind) p q h k = (k.0, below-append behind before k.1 h)

  pub tour-inside : (o : Points) (a e : ℕ) → a ≤ e → e < n → Inside n (tour_of o a e).start × Below n (tour_of o a e).walk
  unfolding tour_of
  tour-inside o a e p q =
      let all = below-from a (suc e - a) (omega arith) in
      tour-below a e _ _ p q (below-front o (from a (suc e - a)) all) (below_rest o (from a (suc e - a)) all)

  -- ---- its legs
  module _ (o : Points) (start : Spot) (inside : Inside n start) where
    curve-to : (i : ℕ) (is : List ℕ) → i < n → Below n is → Inside n (curve_to o start i is)
    unfolding curve_to
    curve-to i [] h k = inside
    curve-to i (j ∷ js) h k = by (on_curve o j)
      where
        by : (b : Bool) → Inside n (cond b (Point j) (Between i j))
        by true = k.0
        by false = (h, k.0)

    pub legs-inside : (on : Bool) (w : List ℕ) → Below n w → LegsBelow n (legs o start on w)
    unfolding legs
    legs-inside on [] h = refl
    legs-inside on (i ∷ is) h = by (on_curve o i) on (legs-inside true is h.1) (legs-inside false is h.1) (curve-to i is h.0 h.1)
      where
        by : (b c : Bool) → LegsBelow n (legs o start true is) → LegsBelow n (legs o start false is) → Inside n (curve_to o start i is)
            → LegsBelow n (cond b (cond c (line i ∷ legs o start true is) (legs o start true is)) (curve i (curve_to o start i is) ∷ legs o start false is))
        by true true p q r = (h.0, p)
        by true false p q r = p
        by false c p q r = (h.0, r, q)

-- ---- how many legs
pub legs-few : (o : Points) (start : Spot) (on : Bool) (w : List ℕ) → length (legs o start on w) ≤ length w
unfolding legs
legs-few o start on [] = omega arith
legs-few o start on (i ∷ is) = by (on_curve o i) on (legs-few o start true is) (legs-few o start false is)
  where
    by : (b c : Bool) → length (legs o start true is) ≤ length is → length (legs o start false is) ≤ length is
        → length (cond b (cond c (line i ∷ legs o start true is) (legs o start true is)) (curve i (curve_to o start i is) ∷ legs o start false is))
        ≤ suc (length is)
    by true true p q = omega arith
    by true false p q = omega arith
    by false c p q = omega arith

pub walk-few : (o : Points) (a e : ℕ) → length (tour_of o a e).walk ≤ suc e - a
walk-few o a e = omega (arith, round-short o a e, ap (λ (r : Round). length r.walk) (round-of o a e))

-- ---- by the marks alone
module _ (xs ys xs' ys' : List ℤ) (t : List ℕ) where
  abbrev o : Points
  o = points xs ys t

  abbrev o' : Points
  o' = points xs' ys' t

  front_same : (is : List ℕ) → front o' is ≡ front o is
  unfolding front
  front_same [] = refl
  front_same (i ∷ is) = ap (λ (l : List ℕ). cond (on_curve o i) [] (i ∷ l)) (front_same is)

  rest-same : (is : List ℕ) → rest o' is ≡ rest o is
  unfolding rest
  rest-same [] = refl
  rest-same (i ∷ is) = ap (λ (l : List ℕ). cond (on_curve o i) (i ∷ is) l) (rest-same is)

  pub tour-same : (a e : ℕ) → tour_of o' a e ≡ tour_of o a e
  unfolding tour_of
  tour-same a e = let p = front_same (from a (suc e - a)) in let q = rest-same (from a (suc e - a)) in λ k. tour_by a e (p k) (q k)

  curve-same : (start : Spot) (i : ℕ) (is : List ℕ) → curve_to o' start i is ≡ curve_to o start i is
  unfolding curve_to
  curve-same start i [] = refl
  curve-same start i (j ∷ js) = refl

  pub legs-same : (start : Spot) (on : Bool) (w : List ℕ) → legs o' start on w ≡ legs o start on w
  unfolding legs
  legs-same start on [] = refl
  legs-same start on (i ∷ is) =
      let p = legs-same start true is in
      let q = legs-same start false is in
      let c = curve-same start i is in
      λ k. cond (on_curve o i) (cond on (line i ∷ p k) (p k)) (curve i (c k) ∷ q k)
