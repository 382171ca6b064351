-- Request #107, a ring made anew: the segments of the edge in rising order, the last leading back to the first.
use Rattle.std.specs.Prelude.{◌≡◌, Bool, true, false, cond, List, ℕ, zero, suc, ◌+◌, ◌-◌, ◌<◌, length, get_or}
use Rattle.axis.specs.Limits.{most_edges}
use Rattle.mend.specs.Following.{count, own_in}

-- of n numbers from i on the first of which a test holds, or another where it holds of none
unfoldable pub first_from : (ℕ → Bool) → ℕ → ℕ → ℕ → ℕ
first_from p zero i other = other
first_from p (suc n) i other = cond (p i) i (first_from p n (i + 1) other)

-- below n the last of which it holds, or another
unfoldable pub last_below : (ℕ → Bool) → ℕ → ℕ → ℕ
last_below p zero other = other
last_below p (suc n) other = cond (p n) n (last_below p n other)

-- ---- the segments of an edge, n in all
-- the lowest and the highest of them
abbrev pub lowest : (ℕ → Bool) → ℕ → ℕ
lowest own n = first_from own n 0 0

abbrev pub highest : (ℕ → Bool) → ℕ → ℕ
highest own n = last_below own n 0

-- the one behind segment i: the next higher one, or the lowest where there is none
abbrev pub behind : (ℕ → Bool) → ℕ → ℕ → ℕ
behind own n i = first_from own (n - (i + 1)) (i + 1) (lowest own n)

-- ---- lists of numbers
-- of the first n segments: how many are of each edge, and the lowest and the highest of them
pub record Tallied (edges : List ℕ) (n : ℕ) (counts lows highs : List ℕ) : Type 0 where
  pub counts_size : length counts ≡ most_edges
  pub lows_size : length lows ≡ most_edges
  pub highs_size : length highs ≡ most_edges
  pub counted : (k : ℕ) → k < most_edges → get_or counts k 0 ≡ count (own_in edges k) n
  pub low : (k : ℕ) → k < most_edges → get_or lows k 0 ≡ lowest (own_in edges k) n
  pub high : (k : ℕ) → k < most_edges → get_or highs k 0 ≡ highest (own_in edges k) n

-- the segments of broken edges lead to the next higher one of their edge, `start` standing behind the highest, and the lowest is seen last; the others lead where they did
pub record Led (edges : List ℕ) (n : ℕ) (broken : List Bool) (start next seen next' : List ℕ) : Type 0 where
  pub anew : (i k : ℕ) → i < n → get_or edges i 0 ≡ k → k < most_edges → get_or broken k false ≡ true → get_or next' i 0 ≡ first_from (own_in edges k) (n - (i + 1)) (i + 1) (get_or start k 0)
  pub lowest_seen : (k : ℕ) → k < most_edges → get_or broken k false ≡ true → get_or seen k 0 ≡ first_from (own_in edges k) n 0 (get_or start k 0)
  pub kept : (i k : ℕ) → get_or edges i 0 ≡ k → k < most_edges → get_or broken k false ≡ false → get_or next' i 0 ≡ get_or next i 0
