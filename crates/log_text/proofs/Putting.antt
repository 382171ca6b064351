-- Bytes written one behind the other.
use mathlib.Core.Path.{◌≡◌, ap, ◌∙◌}
use mathlib.Core.List.{List, [], ◌∷◌}
use Prim.Native.Nat.{ℕ, ◌+◌, ◌/◌, ◌%◌, ◌≤◌}
use native.Mathlib.Omega.{arith}
use lib.ListN.{length}
use lib.IntN.{ℤ}
use mir.Syntax.{w32}
use mir.Val.{of_z}
use Rattle.log_digits.specs.Digits.{digits_for, written}
use Rattle.log_digits.proofs.Writing.{written-more}
use Rattle.log_text.specs.Answer.{result_bytes}

-- two bytes
pub two-written :
    (text : List ℕ) {first last : List ℕ} (at a b : ℕ) → digits_for (at + 2) ≤ length text → first ≡ written text at (a ∷ [])
    → last ≡ written first (at + 1) (b ∷ [])
    → last ≡ written text at (a ∷ b ∷ [])
two-written text at a b room p q = q ∙ ap (λ (l : List ℕ). written l (at + 1) (b ∷ [])) p ∙ written-more text (a ∷ []) (b ∷ []) at (omega arith)

-- and a third behind them
three-written :
    (text : List ℕ) {first second last : List ℕ} (at a b c : ℕ) → digits_for (at + 3) ≤ length text → first ≡ written text at (a ∷ [])
    → second ≡ written first (at + 1) (b ∷ [])
    → last ≡ written second (at + 2) (c ∷ []) → last ≡ written text at (a ∷ b ∷ c ∷ [])
three-written text at a b c room p q s =
    s ∙ ap (λ (l : List ℕ). written l (at + 2) (c ∷ [])) (two-written text at a b (omega arith) p q) ∙ written-more text (a ∷ b ∷ []) (c ∷ []) at (omega arith)

-- a result by its bits
pub result-written :
    (text : List ℕ) {first second last : List ℕ} (at : ℕ) (z : ℤ) (bits : ℕ) → bits ≡ of_z w32 z → digits_for (at + 3) ≤ length text
    → first ≡ written text at (bits / 65536 % 256 ∷ [])
    → second ≡ written first (at + 1) (bits / 256 % 256 ∷ []) → last ≡ written second (at + 2) (bits % 256 ∷ []) → last ≡ written text at (result_bytes z)
unfolding result_bytes
result-written text at z bits e room p q s =
    three-written text at (bits / 65536 % 256) (bits / 256 % 256) (bits % 256) room p q s
    ∙ ap (λ (n : ℕ). written text at (n / 65536 % 256 ∷ n / 256 % 256 ∷ n % 256 ∷ [])) e
