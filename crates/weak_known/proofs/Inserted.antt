-- One test more between a call's tests: the refusals in their order.
use mathlib.Core.Path.{◌≡◌, sym, ap, ◌∙◌}
use mathlib.Core.Bool.{Bool, true, false, cond}
use mathlib.Core.List.{List, [], ◌∷◌, ◌++◌}
use Prim.Native.Nat.{ℕ, ◌<◌}
use Rattle.signed.proofs.Choices.{cond-true, cond-false}
use Rattle.refusals.specs.Refusal.{Test, ◌unless◌, refusal, answered}
use Rattle.refusals.proofs.Tests.{numbered, own_first, answered-no}

-- the first test that fails decides, and one that holds leaves it to the rest
pub test-fails : (n : ℕ) (h : Bool) (ts : List Test) → h ≡ false → refusal (n unless h ∷ ts) ≡ n
unfolding refusal
test-fails n h ts e = cond-false h (refusal ts) n e

pub test-holds : (n : ℕ) (h : Bool) (ts : List Test) → h ≡ true → refusal (n unless h ∷ ts) ≡ refusal ts
unfolding refusal
test-holds n h ts e = cond-true h (refusal ts) n e

module _ (ts us : List Test) (n : ℕ) (b : Bool) where
  -- one that holds changes nothing
  pub test-within : b ≡ true → refusal (ts ++ (n unless b ∷ us)) ≡ refusal (ts ++ us)
  unfolding refusal
  test-within e = by ts
    where
      by : (ts : List Test) → refusal (ts ++ (n unless b ∷ us)) ≡ refusal (ts ++ us)
      by [] = cond-true b (refusal us) n e
      by (x ∷ ts) = ap (λ (r : ℕ). cond x.holds r x.number) (by ts)

  module _ (numbers : numbered ts ≡ true) where
    front : refusal (ts ++ (n unless b ∷ us)) ≡ answered (refusal ts) (λ (k : ℕ). k) (refusal (n unless b ∷ us))
    front = own_first ts (n unless b ∷ us) numbers

    -- a refusal by the tests in front of it
    pub front-refused : (k : ℕ) → k ≡ refusal ts → 0 < k → k ≡ refusal (ts ++ (n unless b ∷ us))
    front-refused k q h = answered-no k (refusal ts) (λ (x : ℕ). x) (refusal (n unless b ∷ us)) q h ∙ sym front

    module _ (none : refusal ts ≡ 0) where
      -- its own
      pub within-refused : b ≡ false → refusal (ts ++ (n unless b ∷ us)) ≡ n
      within-refused e = front ∙ ap (λ (k : ℕ). answered k (λ (x : ℕ). x) (refusal (n unless b ∷ us))) none ∙ test-fails n b us e

      -- or that of those behind it
      pub behind-decides : b ≡ true → refusal (ts ++ (n unless b ∷ us)) ≡ refusal us
      behind-decides e = front ∙ ap (λ (k : ℕ). answered k (λ (x : ℕ). x) (refusal (n unless b ∷ us))) none ∙ test-holds n b us e
