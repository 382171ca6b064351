-- What the functions that find a contour's start and walk promise each other.
use Rattle.std.specs.Prelude.{◌≡◌, cond, List, ℕ, ◌+◌, ◌-◌, ◌≤◌, ◌<◌, ltb, length, get_or, ℤ, nat_abs}
use Rattle.weak_contour.specs.Limits.{most_points, most_result}
use Rattle.weak_contour.specs.Contour.{at}
use Rattle.path_trip.specs.declared.tour.Spot.{Spot}
use Rattle.path_trip.specs.declared.tour.Spot.TheVariants.{Point, Between}
use Rattle.path_trip.specs.Path.{Points}

-- every coordinate of the list is one that weak points can leave
abbrev pub Fitted : List ℤ → Type 0
Fitted l = (i : ℕ) → nat_abs (at l i) ≤ most_result

-- lists of points that are not refused
pub record Admitted (o : Points) : Type 0 where
  pub few : length o.xs ≤ most_points
  pub ys_length : length o.ys ≡ length o.xs
  pub marks_length : length o.marks ≡ length o.xs
  pub wide : Fitted o.xs
  pub high : Fitted o.ys

-- the contour from a up to e
pub record Within (o : Points) (a e : ℕ) : Type 0 where
  pub some : a < e
  pub inside : e ≤ length o.xs

-- f is the first marked point from a up to e, or e
pub record First (t : List ℕ) (a e f : ℕ) : Type 0 where
  pub low : a ≤ f
  pub high : f ≤ e
  pub clear : (z : ℕ) → z < f → a ≤ z → get_or t z 0 ≡ 0
  pub here : f < e → 0 < get_or t f 0

-- the index i, come around from e to a
abbrev pub around : ℕ → ℕ → ℕ → ℕ
around a e i = cond (ltb i e) i (i - e + a)

-- a spot is of points below n
abbrev pub Inside : ℕ → Spot → Type 0
Inside n (Point i) = i < n
Inside n (Between i j) = (i < n) × (j < n)

-- w goes around the contour from s on, by n points
pub record Walk (w : List ℕ) (a e s n : ℕ) : Type 0 where
  pub len : length w ≡ n
  pub each : (j : ℕ) → j < n → get_or w j 0 ≡ around a e (s + j)
  pub inside : s + n ≤ e + (e - a)
  pub from_a : a ≤ s
