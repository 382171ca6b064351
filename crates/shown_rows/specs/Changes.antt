-- A row of changes: the total up to a column is how often the lines added so far wind around the column's centre, modulo 65,536.
use Rattle.std.specs.Prelude.{◌≡◌, List, ℕ, suc, ◌+◌, ◌%◌, ◌<◌, length, get_or}
use Rattle.shown_rows.specs.Turns.{total}
use Rattle.shown_rows.specs.Crossing.{centre, LeftOf}

-- the total up to the column i
abbrev pub up_to : List ℕ → ℕ → ℕ
up_to l i = total (λ k. get_or l k 0) (suc i)

pub record Gained (x by r : ℕ) : Type 0 where
  pub sum : r ≡ (x + by) % 65536

-- the line is added to the row of changes of the columns from `left` on: every column of the row whose centre is at or right of its crossing winds so much more
pub record Added (left lx ly hx hy y by : ℕ) (l l' : List ℕ) : Type 0 where
  pub as_long : length l' ≡ length l
  pub more : (i : ℕ) → i < length l → LeftOf lx ly hx hy y (centre (left + i)) → up_to l' i % 65536 ≡ (up_to l i + by) % 65536
  pub same : (i : ℕ) → i < length l → (LeftOf lx ly hx hy y (centre (left + i)) → ⊥) → up_to l' i ≡ up_to l i
