-- Counts of edges as words.
use mathlib.Core.Path.{◌≡◌, ap}
use Prim.Native.Nat.{ℕ, ◌%◌, ◌≤◌}
use native.Mathlib.Nat.{mod-eq_of_lt}
use native.Mathlib.Omega.{arith}
use lib.IntN.{pos}
use Rattle.axis.specs.Limits.{most_edges}

-- a count within the limit is its own word
pub count-is : (n : ℕ) → n ≤ most_edges → pos (n % 65536) ≡ pos n
count-is n h = ap pos (mod-eq_of_lt (omega arith))
