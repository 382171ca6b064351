-- The columns and rows of the field that an outline can blacken.
use Rattle.std.specs.Prelude.{Bool, List, ℕ, ◌+◌, ◌/◌, ◌≤◌, ◌<◌, ℤ, ◌≤ℤ◌}
use Rattle.weak_contour.specs.Contour.{at}
use Rattle.path_trip.specs.Path.{Points}
use Rattle.shown.specs.Shown.{lines_of, black}
use Rattle.shown.specs.Frames.{WhiteAround}
use Rattle.shown_lines.specs.Lines.{field_half}
use Rattle.shown_picture.specs.declared.window.Window.{Window}

-- columns of the field, and rows
abbrev pub most_cells : ℕ
most_cells = 2048

-- the picture that the display shows of an outline, magnified
abbrev pub picture : ℕ → Points → List ℕ → ℕ → ℕ → Bool
picture m o es = black (lines_of field_half m o 0 es)

-- ---- extremes
-- r is the place of the smaller of the numbers at i and j
pub record Lesser (l : List ℤ) (i j r : ℕ) : Type 0 where
  pub first : at l r ≤ℤ at l i
  pub second : at l r ≤ℤ at l j
  pub inside : (n : ℕ) → i < n → j < n → r < n

-- of the larger
pub record Greater (l : List ℤ) (i j r : ℕ) : Type 0 where
  pub first : at l i ≤ℤ at l r
  pub second : at l j ≤ℤ at l r
  pub inside : (n : ℕ) → i < n → j < n → r < n

-- of the first n numbers the one at `least` is a least, and the one at `largest` a largest
pub record Spread (l : List ℤ) (n least largest : ℕ) : Type 0 where
  pub from : (i : ℕ) → i < n → at l least ≤ℤ at l i
  pub to : (i : ℕ) → i < n → at l i ≤ℤ at l largest
  pub least_in : least < n
  pub largest_in : largest < n

-- ---- the window
-- the first column, or row, whose centre is at a coordinate of the field, in halves, or behind it
abbrev pub cell_of : ℕ → ℕ
cell_of h = (h + 63) / 128

-- a picture is white around a window of the field
pub record Bounds (b : ℕ → ℕ → Bool) (w : Window) : Type 0 where
  pub white : WhiteAround b w.left w.columns w.low w.rows
  pub wide : w.left + w.columns ≤ most_cells
  pub high : w.low + w.rows ≤ most_cells
