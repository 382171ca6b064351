-- A pass over the edges: one visit after the other.
use Rattle.std.specs.Prelude.{ℕ, zero, suc, ◌+◌}

-- n visits, from edge i on
unfoldable pub visits : {S : Type 0} → (S → ℕ → S) → ℕ → ℕ → S → S
visits f zero i s = s
visits f (suc n) i s = visits f n (i + 1) (f s i)
