-- Steps of a path in lent lists, one behind the other.
use Rattle.std.specs.Prelude.{◌≡◌, true, List, [], ◌∷◌, ℕ, ◌+◌, ◌*◌, ◌≤◌, ◌<◌, Float, length, set, drop}
use Rattle.path_places.specs.declared.PixelPoint.{PixelPoint}
use Rattle.path_trip.specs.declared.step.PathStep.{PathStep}
use Rattle.path_trip.specs.Numbers.{kind_of, first_of, second_of}
use Rattle.path_trip.specs.Path.{Points, walked}

-- a list of kinds, a list of places, four numbers a step, and how many steps stand in them
pub record Lists : Type 0 where
  pub kinds : List ℕ
  pub places : List Float
  pub count : ℕ

-- these lists, with n steps
abbrev pub lent : List ℕ → List Float → ℕ → Lists
lent ks ps n = record { kinds = ks; places = ps; count = n }

-- two numbers, from the number i on
abbrev pub pair_at : List Float → ℕ → Float → Float → List Float
pair_at ps i x y = set (set ps i x) (i + 1) y

-- one place, from the number i on
abbrev pub placed_at : List Float → ℕ → PixelPoint → List Float
placed_at ps i p = pair_at ps i p.x p.y

-- one step more
unfoldable pub laid : Lists → PathStep → Lists
laid l s =
    lent (set l.kinds l.count (kind_of s))
    (placed_at (placed_at l.places (4 * l.count) (first_of s)) (4 * l.count + 2) (second_of s))
    (l.count + 1)

-- these steps more, in order
unfoldable pub lay : Lists → List PathStep → Lists
lay l [] = l
lay l (s ∷ ss) = lay (laid l s) ss

-- the lent lists have room for n steps more
pub record Room (l : Lists) (n : ℕ) : Type 0 where
  pub kinds_room : l.count + n ≤ length l.kinds
  pub places_room : 4 * (l.count + n) ≤ length l.places

-- one step of a walk w is written, that from its place j on, and what is left is from its place r on
pub record Stepped (o : Points) (start : PixelPoint) (w : List ℕ) (j r : ℕ) (l m : Lists) : Type 0 where
  pub step : PathStep
  pub wrote : m ≡ laid l step
  pub left : walked o start true (drop j w) ≡ step ∷ walked o start true (drop r w)
  pub further : j < r
