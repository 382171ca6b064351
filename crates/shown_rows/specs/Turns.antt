-- The Euler number of black pixels: corners less sides plus pixels of the union of their squares, counted where they are first met, row by row and in a row from the left.
-- Around the corner at the left lower end of a pixel stand four: a left below, b right below, c left, d the pixel itself.
use Rattle.std.specs.Prelude.{Bool, true, false, cond, ℕ, zero, suc, ◌+◌}

-- columns of pixels that a row can have, and one behind them
abbrev pub most_columns : ℕ
most_columns = 2049

-- ---- one corner with the two sides and the pixel that start at it
-- whether one of two is black
abbrev pub either : Bool → Bool → Bool
either x y = cond x true y

-- 1 where it is so
abbrev pub bit : Bool → ℕ
bit x = cond x 1 0

-- the corner belongs to the union
abbrev pub corner : Bool → Bool → Bool → Bool → ℕ
corner a b c d = bit (either a (either b (either c d)))

-- of the side to the right of it and the side above it, how many do
abbrev pub sides : Bool → Bool → Bool → Bool → ℕ
sides a b c d = bit (either b d) + bit (either c d)

-- the pixel does
abbrev pub pixel : Bool → Bool → Bool → Bool → ℕ
pixel a b c d = bit d

-- ---- what the sum of the three comes to
-- an outer turn: the left lower one alone is black
abbrev pub outer : Bool → Bool → Bool → Bool → ℕ
outer a b c d = cond d 0 (cond c 0 (cond b 0 (bit a)))

-- an inner turn: the right lower and the left upper one are black, and the right upper one is white
abbrev pub inner : Bool → Bool → Bool → ℕ
inner b c d = cond d 0 (cond c (bit b) 0)

-- ---- rows
-- f from 0 up to n
unfoldable pub total : (ℕ → ℕ) → ℕ → ℕ
total f zero = 0
total f (suc n) = total f n + f n

-- what stands in front of column i, or below row i; in front of the first it is white
abbrev pub before : (ℕ → Bool) → ℕ → Bool
before f zero = false
before f (suc i) = f i

-- f of the four around the corner i between two rows
abbrev pub window : (Bool → Bool → Bool → Bool → ℕ) → (ℕ → Bool) → (ℕ → Bool) → ℕ → ℕ
window f below here i = f (before below i) (below i) (before here i) (here i)

-- and of all corners up to n
abbrev pub windows : (Bool → Bool → Bool → Bool → ℕ) → (ℕ → Bool) → (ℕ → Bool) → ℕ → ℕ
windows f below here n = total (window f below here) n
