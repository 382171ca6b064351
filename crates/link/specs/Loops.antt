-- Loops as iterations.
use Rattle.std.specs.Prelude.{Bool, cond, ℕ, zero, suc, ◌+◌}

-- what the turns 0, 1, 2 .. below n make of s
unfoldable pub turns : {S : Type 0} → (ℕ → S → S) → ℕ → S → S
turns f zero s = s
turns f (suc n) s = f n (turns f n s)

-- n turns from number i on, of which one that is the last ends them
unfoldable pub till : {S : Type 0} → (ℕ → S → Bool) → (ℕ → S → S) → ℕ → ℕ → S → S
till last f zero i s = s
till last f (suc n) i s = cond (last i s) (f i s) (till last f n (i + 1) (f i s))
