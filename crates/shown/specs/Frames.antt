-- Where the points of an outline stand in the field, and where a picture is white.
use Rattle.std.specs.Prelude.{◌≡◌, Bool, false, List, ◌⊎◌, ℕ, ◌+◌, ◌≤◌, ◌<◌, ℤ, pos, ◌+ℤ◌, ◌*ℤ◌, ◌≤ℤ◌}
use Rattle.weak_contour.specs.Contour.{at}
use Rattle.path_trip.specs.Path.{Points}

-- the place of the point i on one axis: 512 to a unit, from the field's corner on
abbrev pub place_of : ℕ → ℕ → List ℤ → ℕ → ℤ
place_of half m l i = pos 512 *ℤ (pos m *ℤ at l i +ℤ pos half)

-- the first n points stand from `low` to `high`
pub record Spans (half m : ℕ) (l : List ℤ) (n low high : ℕ) : Type 0 where
  pub from : (i : ℕ) → i < n → pos low ≤ℤ place_of half m l i
  pub to : (i : ℕ) → i < n → place_of half m l i ≤ℤ pos high

-- they do so on both axes
pub record Framed (half m : ℕ) (o : Points) (n lx hx ly hy : ℕ) : Type 0 where
  pub across : Spans half m o.xs n lx hx
  pub upward : Spans half m o.ys n ly hy

-- a centre outside of these: in front of the first, or at the last or behind it
abbrev pub Outside : ℕ → ℕ → ℕ → Type 0
Outside low high x = (x < low) ⊎ (high ≤ x)

-- the picture is white but for n columns from `left` on and m rows from `low` on
pub record WhiteAround (b : ℕ → ℕ → Bool) (left n low m : ℕ) : Type 0 where
  pub in_front : (i j : ℕ) → i < left → b i j ≡ false
  pub behind : (i j : ℕ) → left + n ≤ i → b i j ≡ false
  pub beneath : (i j : ℕ) → j < low → b i j ≡ false
  pub above : (i j : ℕ) → low + m ≤ j → b i j ≡ false
