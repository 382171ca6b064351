-- Rows of pixels that are read off rows of changes, and what is counted of them.
use Rattle.std.specs.Prelude.{◌≡◌, Bool, List, ℕ, ◌%◌, ◌≤◌, ◌<◌, ltb, length, get_or}
use Rattle.shown_rows.specs.declared.turns.Counts.{Counts}
use Rattle.shown_rows.specs.Turns.{pixel, outer, inner, windows}
use Rattle.shown_rows.specs.Changes.{up_to}

-- a row of pixels: that of column i; behind the row's end it is white
abbrev pub black_at : List ℕ → ℕ → Bool
black_at row i = ltb 0 (get_or row i 0)

-- a row of changes: the pixel of column i is black where what winds around its centre is not 0
abbrev pub wound : List ℕ → ℕ → Bool
wound changes i = ltb 0 (up_to changes i % 65536)

-- the first n pixels of a row are read off the changes, and written over what stood there
pub record Over (row changes : List ℕ) (n : ℕ) (row' : List ℕ) : Type 0 where
  pub as_long : length row' ≡ length row
  pub here : (k : ℕ) → k < n → black_at row' k ≡ wound changes k
  pub behind : (k : ℕ) → n ≤ k → get_or row' k 0 ≡ get_or row k 0

-- the counts are those of black pixels, outer turns and inner turns by `of`
pub record CountsBy (of : (Bool → Bool → Bool → Bool → ℕ) → ℕ) (r : Counts) : Type 0 where
  pub black : r.black ≡ of pixel
  pub outers : r.outer ≡ of outer
  pub inners : r.inner ≡ of (λ _. inner)

-- a row is closed: all of its pixels are written over the row below, and counted with the turns between the two
pub record Closed (row changes : List ℕ) (r : Counts) (row' : List ℕ) : Type 0 where
  pub over : Over row changes (length changes) row'
  pub counts : CountsBy (λ f. windows f (black_at row) (wound changes) (length changes)) r
