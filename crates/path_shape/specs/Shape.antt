-- The shape of a path (request #101, for the rasteriser).
use Rattle.std.specs.Prelude.{◌≡◌, Bool, true, false, cond, List, [], ◌∷◌, ℕ, suc, ◌+◌, ◌≤◌, ◌<◌, eqb}
use Rattle.path_trip.specs.Path.{Points, on_curve, round_of, steps_of}
use Rattle.path_trip.specs.declared.tour.Spot.{Spot}
use Rattle.path_trip.specs.declared.tour.Spot.TheVariants.{Point, Between}
use Rattle.path_trip.specs.Legs.{Leg, line, curve, Tour, tour_of, legs_of, picture_of}

-- ---- how often a point is an end
-- 1 where j is the point i, else 0
abbrev pub here : ℕ → ℕ → ℕ
here i j = cond (eqb i j) 1 0

abbrev pub is_at : ℕ → Spot → ℕ
is_at i (Point j) = here i j
is_at i (Between j k) = 0

-- of how many of these lines and curves the point i is the end
abbrev pub ends_in : ℕ → Leg → ℕ
ends_in i (line j) = here i j
ends_in i (curve j s) = is_at i s

unfoldable pub ending : ℕ → List Leg → ℕ
ending i [] = 0
ending i (l ∷ ls) = ends_in i l + ending i ls

-- and of how many of the lines
abbrev pub line_in : ℕ → Leg → ℕ
line_in i (line j) = here i j
line_in i (curve j s) = 0

unfoldable pub lines : ℕ → List Leg → ℕ
lines i [] = 0
lines i (l ∷ ls) = line_in i l + lines i ls

-- whether the last of these points is on the curve; `on` where there are none
unfoldable pub last_on : Points → Bool → List ℕ → Bool
last_on o on [] = on
last_on o on (i ∷ is) = last_on o (on_curve o i) is

-- ---- the shape of a contour's steps
-- the start is the first on-curve point from a to e; or, where there is none, halfway between e and a
abbrev pub StartsAt : Points → ℕ → ℕ → Spot → Type 0
StartsAt o a e (Point f) = (a ≤ f) × (f ≤ e) × (on_curve o f ≡ true) × ((z : ℕ) → a ≤ z → z < f → on_curve o z ≡ false)
StartsAt o a e (Between i j) = (i ≡ e) × (j ≡ a) × ((z : ℕ) → a ≤ z → z ≤ e → on_curve o z ≡ false)

-- a start that is a point is the end of no line, and of one curve exactly when the walk's last point is off the curve
abbrev pub StartEnds : Points → List ℕ → List Leg → Spot → Type 0
StartEnds o walk ls (Point f) = (lines f ls ≡ 0) × (ending f ls ≡ cond (last_on o true walk) 0 1)
StartEnds o walk ls (Between i j) = true ≡ true

-- the steps of the contour from a to e, which go by the tour t
pub record Shaped (o : Points) (a e : ℕ) (t : Tour) : Type 0 where
  -- they begin with a move to the start, go on with its legs, of which none is a move or a close, and end with a close
  pub steps : steps_of o (round_of o a e) ≡ picture_of o t
  pub starts : StartsAt o a e t.start
  -- every on-curve point but the start is the end of exactly one line or curve
  pub once : (i : ℕ) → a ≤ i → i ≤ e → on_curve o i ≡ true → (t.start ≡ Point i → ⊥) → ending i (legs_of o t) ≡ 1
  pub start_ends : StartEnds o t.walk (legs_of o t) t.start

-- every contour of an outline, the first from a on
abbrev pub AllShaped : Points → ℕ → List ℕ → Type 0
AllShaped o a [] = true ≡ true
AllShaped o a (e ∷ es) = Shaped o a e (tour_of o a e) × AllShaped o (suc e) es
