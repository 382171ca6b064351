-- What answer 0 of a call says: nothing was refused, and the outcome is that of the work.
use mathlib.Core.Path.{◌≡◌, refl, sym, ◌∙◌}
use Prim.Native.Nat.{ℕ, zero, suc}
use Rattle.refusals.specs.Refusal.{answered}

module _ {A : Type 0} (refused : ℕ → A) (done : A) where
  -- a refusal is answered by its number, so 0 is answered where there is none
  pub none-refused : (answer : A → ℕ) → ((j : ℕ) → answer (refused j) ≡ j) → (k : ℕ) → answer (answered k refused done) ≡ 0 → k ≡ 0
  none-refused answer f zero h = refl
  none-refused answer f (suc k) h = sym (f (suc k)) ∙ h

  -- and then the outcome is that of the work
  pub worked : (k : ℕ) → k ≡ 0 → answered k refused done ≡ done
  worked k e = rw e
