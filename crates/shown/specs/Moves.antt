-- Outlines that show the same: turned around, and moved by whole pixels.
use Rattle.std.specs.Prelude.{◌≡◌, false, List, [], ◌∷◌, ℕ, ◌<◌, ℤ, pos, ◌+ℤ◌, ◌*ℤ◌}
use Rattle.weak_contour.specs.Contour.{at}
use Rattle.path_trip.specs.Path.{Points}
use Rattle.shown_rows.specs.Turns.{most_columns}
use Rattle.shown.specs.Shown.{Side, side, black, black_count, euler}

-- every line turned around: its start and its end are exchanged
unfoldable pub turned : List Side → List Side
turned [] = []
turned (s ∷ ss) = side s.end s.start ∷ turned ss

-- the first n points are moved by `across` pixels to the right and `upward` pixels up, each a whole number, of 64 units after magnifying; the marks stay
pub record Moved (m n : ℕ) (across upward : ℤ) (o o' : Points) : Type 0 where
  pub marks : o'.marks ≡ o.marks
  pub xs : (i : ℕ) → i < n → pos m *ℤ at o'.xs i ≡ pos m *ℤ at o.xs i +ℤ pos 64 *ℤ across
  pub ys : (i : ℕ) → i < n → pos m *ℤ at o'.ys i ≡ pos m *ℤ at o.ys i +ℤ pos 64 *ℤ upward

-- both show as many black pixels, and the same Euler number
pub record ShowSame (ss ss' : List Side) : Type 0 where
  pub blacks : black_count (black ss') most_columns ≡ black_count (black ss) most_columns
  pub eulers : euler (black ss') most_columns ≡ euler (black ss) most_columns

-- no pixel is black, and both numbers are 0
pub record ShowsNothing (ss : List Side) : Type 0 where
  pub white : (i j : ℕ) → black ss i j ≡ false
  pub blacks : black_count (black ss) most_columns ≡ 0
  pub eulers : euler (black ss) most_columns ≡ pos 0
