-- Request #107: how a ring is told to be sound by numbers, in as many steps as the edge has segments. `own` says which segments are of the edge, `next` names the segment behind each, no number below n where there is none.
use Rattle.std.specs.Prelude.{Bool, false, cond, ◌&&◌, List, ℕ, zero, suc, ◌+◌, eqb, ltb, get_or}

-- ---- counting
-- the sum of a function below n, and how many numbers below n a test holds of
unfoldable pub total : (ℕ → ℕ) → ℕ → ℕ
total f zero = 0
total f (suc n) = total f n + f n

abbrev pub count : (ℕ → Bool) → ℕ → ℕ
count p n = total (λ (i : ℕ). cond (p i) 1 0) n

-- ---- following
-- from segment ix on, with so many segments of the edge left to meet: each one met is of the edge, and the last one left is the last, whose next is the first
unfoldable pub closes : (ℕ → Bool) → (ℕ → ℕ) → ℕ → ℕ → ℕ → ℕ → ℕ → Bool
closes own next n first last zero ix = false
closes own next n first last (suc left) ix =
    ltb ix n && (own ix && cond (eqb ix last) (eqb left 0 && eqb (next ix) first) (closes own next n first last left (next ix)))

-- ---- lists of numbers
-- the segments of edge k, by a list that has the edge of each
abbrev pub own_in : List ℕ → ℕ → ℕ → Bool
own_in edges k i = eqb (get_or edges i 0) k

-- the segment behind each, by a list that has it
abbrev pub next_in : List ℕ → ℕ → ℕ
next_in next i = get_or next i 0
