-- Chains of lines, each from the end of the one before: how often they cross a height upward and downward. The places of a curve at sixteenths.
use Rattle.std.specs.Prelude.{Bool, cond, List, [], ◌∷◌, ℕ, ◌+◌, ◌-◌, ◌*◌, ltb}
use Rattle.shown_rows.specs.Turns.{bit}

-- 1 where a line goes upward over a height: its start is not above it, and its end is
abbrev pub upward : Bool → Bool → ℕ
upward a b = cond a 0 (bit b)

-- and downward: its start is above it, and its end is not
abbrev pub downward : Bool → Bool → ℕ
downward a b = cond b 0 (bit a)

-- how often the lines from a on, by these heights, do
unfoldable pub ups : ℕ → ℕ → List ℕ → ℕ
ups y a [] = 0
ups y a (b ∷ bs) = upward (ltb y a) (ltb y b) + ups y b bs

unfoldable pub downs : ℕ → ℕ → List ℕ → ℕ
downs y a [] = 0
downs y a (b ∷ bs) = downward (ltb y a) (ltb y b) + downs y b bs

-- where they end
unfoldable pub ending : ℕ → List ℕ → ℕ
ending a [] = a
ending a (b ∷ bs) = ending b bs

-- 256 times the coordinate of the place at k / 16 of a curve, of which these are the coordinates of the start, the control and the end
abbrev pub place_at : ℕ → ℕ → ℕ → ℕ → ℕ
place_at p c q k = (16 - k) * (16 - k) * p + 2 * (16 - k) * k * c + k * k * q
