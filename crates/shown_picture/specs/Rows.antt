-- What is counted in the rows of a picture.
use Rattle.std.specs.Prelude.{◌≡◌, Bool, List, ℕ, suc, ◌+◌, ◌≤◌, ◌<◌, length, get_or}
use Rattle.shown_rows.specs.declared.turns.Counts.{Counts}
use Rattle.shown_rows.specs.Turns.{most_columns, total, before, windows}
use Rattle.shown_rows.specs.Rows.{black_at, CountsBy}
use Rattle.shown.specs.Shown.{around}
use Rattle.shown_picture.specs.declared.window.Window.{Window}

-- ---- counts
-- counts up to this are added without loss
abbrev pub most_count : ℕ
most_count = 2147483647

-- none of the counts is more than k
pub record Small (k : ℕ) (r : Counts) : Type 0 where
  pub blacks : r.black ≤ k
  pub outers : r.outer ≤ k
  pub inners : r.inner ≤ k

-- the counts of two parts added
pub record Sum (a b r : Counts) : Type 0 where
  pub blacks : r.black ≡ a.black + b.black
  pub outers : r.outer ≡ a.outer + b.outer
  pub inners : r.inner ≡ a.inner + b.inner

-- ---- one row
-- every number is 0
abbrev pub White : List ℕ → Type 0
White l = (i : ℕ) → get_or l i 0 ≡ 0

pub record Cleared (l l' : List ℕ) : Type 0 where
  pub as_long : length l' ≡ length l
  pub none : White l'

-- the row of a picture from the column `left` on
abbrev pub row_from : (ℕ → ℕ → Bool) → ℕ → ℕ → ℕ → Bool
row_from b left row i = b (left + i) row

-- the first n pixels of a row are written over those below them, and counted with the turns between the two rows
pub record RowRead (here : ℕ → Bool) (below : List ℕ) (n : ℕ) (r : Counts) (below' : List ℕ) : Type 0 where
  pub as_long : length below' ≡ length below
  pub over : (i : ℕ) → i < n → black_at below' i ≡ here i
  pub counts : CountsBy (λ f. windows f (black_at below) here n) r

-- ---- rows
-- the picture from a column and a row on
abbrev pub shifted : (ℕ → ℕ → Bool) → ℕ → ℕ → ℕ → ℕ → Bool
shifted b left low i j = b (left + i) (low + j)

-- f of the four pixels around each corner, in n columns and m rows of corners
abbrev pub rows_to : (Bool → Bool → Bool → Bool → ℕ) → (ℕ → ℕ → Bool) → ℕ → ℕ → ℕ
rows_to f p n m = total (λ j. windows f (λ i. before (p i) j) (λ i. p i j) n) m

-- the rows of a window are counted, with a white row above it and a white column behind it
pub record RowsRead (b : ℕ → ℕ → Bool) (w : Window) (r : Counts) : Type 0 where
  pub counts : CountsBy (λ f. rows_to f (shifted b w.left w.low) (suc w.columns) (suc w.rows)) r

-- ---- the picture
-- the whole field is counted
pub record PictureCounted (b : ℕ → ℕ → Bool) (r : Counts) : Type 0 where
  pub counts : CountsBy (λ f. around f b most_columns) r
