-- A row that is cleared place by place. Assumes nothing.
use mathlib.Core.Path.{◌≡◌, refl, ap, ◌∙◌}
use mathlib.Core.Logic.{⊎_elim}
use mathlib.Core.List.{List}
use Prim.Native.Nat.{ℕ, zero, suc, ◌+◌, ◌-◌, ◌≤◌, ◌<◌, min}
use native.Mathlib.Decide.{ℕ_discrete}
use native.Mathlib.Omega.{arith}
use lib.ListN.{length, length-set, length-take, length-replicate, get_or, set, take, replicate, get_or-eq_default}
use lib.Seq.{get_or-set_same, get_or-set_other}
use Rattle.signed.proofs.Signed.{lt-or-le}
use Rattle.shown_rows.specs.Turns.{most_columns}
use Rattle.shown_picture.specs.Rows.{White, Cleared}

-- the places in front of i are 0
pub record Passed (l l' : List ℕ) (i : ℕ) : Type 0 where
  pub as_long : length l' ≡ length l
  pub front : (k : ℕ) → k < i → get_or l' k 0 ≡ 0

pub passed_none : (l : List ℕ) → Passed l l 0
passed_none l = record { as_long = refl; front = λ k h. absurd (let z : ⊥ = omega arith in z) }

pub passed-more : (l l' : List ℕ) (i : ℕ) → i < length l' → Passed l l' i → Passed l (set l' i 0) (i + 1)
passed-more l l' i h p = record { as_long = length-set l' i 0 ∙ p.as_long; front = λ k g. by k g (ℕ_discrete k i) }
  where
    by : (k : ℕ) → k < i + 1 → Dec (k ≡ i) → get_or (set l' i 0) k 0 ≡ 0
    by k g (yes e) = ap (λ (z : ℕ). get_or (set l' i 0) z 0) e ∙ get_or-set_same l' i 0 0 h
    by k g (no e) = get_or-set_other l' i k 0 0 e ∙ p.front k (omega arith)

pub passed-all : (l l' : List ℕ) (i : ℕ) → length l' ≤ i → Passed l l' i → Cleared l l'
passed-all l l' i h p = record {
  as_long = p.as_long;
  none = λ k. ⊎_elim (λ g. p.front k (omega arith)) (λ g. get_or-eq_default l' 0 {n = k} g) (lt-or-le k (length l'));
}

-- ---- the front of a row of zeros
take-white : (n m i : ℕ) → get_or {A = ℕ} (take m (replicate n 0)) i 0 ≡ 0
take-white n zero i = refl
take-white zero (suc m) i = refl
take-white (suc n) (suc m) zero = refl
take-white (suc n) (suc m) (suc i) = take-white n m i

module _ (n : ℕ) where
  pub zeros-long : n ≤ most_columns → length {A = ℕ} (take (n - 0) (replicate most_columns 0)) ≡ n
  zeros-long h =
      length-take {A =
      ℕ} (n - 0) (replicate most_columns 0) ∙ ap (min (n - 0)) (length-replicate {A = ℕ} most_columns 0)
      ∙ (let e : min (n - 0) most_columns ≡ n = omega arith in e)

  pub zeros-white : White (take (n - 0) (replicate most_columns 0))
  zeros-white i = take-white most_columns (n - 0) i
