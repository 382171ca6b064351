-- How many numbers of a set are below a number.
use mathlib.Core.Path.{◌≡◌, refl, sym, ap, ◌∙◌}
use mathlib.Core.Bool.{Bool, true, false, cond}
use mathlib.Core.Logic.{⊎_elim}
use Prim.Native.Nat.{ℕ, zero, suc, ◌+◌, ◌≤◌, ◌<◌}
use native.Mathlib.Nat.{eq-or-lt_of_le}
use native.Mathlib.Omega.{arith}
use Rattle.signed.proofs.Signed.{lt-or-le}
use Rattle.axis.proofs.Walks.{same?}
use Rattle.mend.specs.Following.{total, count}
use Rattle.mend.proofs.Sums.{total-none, total-more, total-same, count-few}

one_at_most : (b : Bool) → cond b 1 0 ≤ 1
one_at_most true = omega arith
one_at_most false = omega arith

-- ---- none, one more, at most all
pub count_none : (s : ℕ → Bool) → count s 0 ≡ 0
count_none s = total-none _

pub count-more : (s : ℕ → Bool) (n : ℕ) → count s (n + 1) ≡ count s n + cond (s n) 1 0
count-more s n = total-more _ n

pub count_in : (s : ℕ → Bool) (n : ℕ) → s n ≡ true → count s (n + 1) ≡ count s n + 1
count_in s n e = count-more s n ∙ ap (λ (b : Bool). count s n + cond b 1 0) e

pub count-out : (s : ℕ → Bool) (n : ℕ) → s n ≡ false → count s (n + 1) ≡ count s n
count-out s n e = count-more s n ∙ ap (λ (b : Bool). count s n + cond b 1 0) e ∙ omega arith

-- ---- sets compared
pub count_same : (s t : ℕ → Bool) (n : ℕ) → ((i : ℕ) → i < n → s i ≡ t i) → count s n ≡ count t n
count_same s t n h = total-same _ _ n (λ i l. ap (λ (b : Bool). cond b 1 0) (h i l))

-- with one number more
pub count-added : (s t : ℕ → Bool) (k n : ℕ) → s k ≡ false → t k ≡ true → ((i : ℕ) → (i ≡ k → ⊥) → t i ≡ s i) → k < n → count t n ≡ count s n + 1
unfolding total
count-added s t k zero a b o h = absurd (omega arith)
count-added s t k (suc n) a b o h =
    ⊎_elim
    (λ (e : k ≡ n).
    let p : count t n ≡ count s n = count_same t s n (λ i l. o i (λ q. omega arith)) in
    let x : t n ≡ true = sym (ap t e) ∙ b in
    let y : s n ≡ false = sym (ap s e) ∙ a in
    rw (x, y) (omega arith))
    (λ (l : k < n).
    let p = count-added s t k n a b o l in
    let x : t n ≡ s n = o n (λ q. omega arith) in
    rw x (omega arith))
    (eq-or-lt_of_le (omega arith))

-- where one is missing
pub count_room : (s : ℕ → Bool) (k n : ℕ) → s k ≡ false → k < n → count s n < n
unfolding total
count_room s k zero a h = absurd (omega arith)
count_room s k (suc n) a h =
    ⊎_elim
    (λ (e : k ≡ n).
    let y : s n ≡ false = sym (ap s e) ∙ a in
    rw y (omega (arith, count-few s n)))
    (λ (l : k < n). omega (arith, count_room s k n a l, one_at_most (s n)))
    (eq-or-lt_of_le (omega arith))

-- ---- the numbers of a set keep their order
pub count-upto : (s : ℕ → Bool) (j k : ℕ) → j ≤ k → count s j ≤ count s k
unfolding total
count-upto s j zero h = let e : j ≡ 0 = omega arith in rw e (omega arith)
count-upto s j (suc k) h =
    ⊎_elim
    (λ (e : j ≡ suc k). rw e (omega arith))
    (λ (l : j < suc k). omega (arith, count-upto s j k (omega arith)))
    (eq-or-lt_of_le h)

pub count-rises : (s : ℕ → Bool) (j k : ℕ) → s j ≡ true → j < k → count s j < count s k
count-rises s j k e h = omega (arith, count_in s j e, count-upto s (j + 1) k (omega arith))

pub count-injective : (s : ℕ → Bool) (j k : ℕ) → s j ≡ true → s k ≡ true → count s j ≡ count s k → j ≡ k
count-injective s j k a b e =
    ⊎_elim
    (λ (q : j ≡ k). q)
    (λ (n : j ≡ k → ⊥). absurd (apart n))
    (same? j k)
  where
    apart : (j ≡ k → ⊥) → ⊥
    apart n =
        ⊎_elim (λ (l : j < k). let p = count-rises s j k a l in omega arith) (λ (l : k ≤ j). let p = count-rises s k j b (omega (arith, n)) in omega arith)
        (lt-or-le j k)

-- all of them
pub count-all : (s : ℕ → Bool) (n : ℕ) → ((i : ℕ) → i < n → s i ≡ true) → count s n ≡ n
unfolding total
count-all s zero h = refl
count-all s (suc n) h = rw (h n (omega arith)) (omega (arith, count-all s n (λ i l. h i (omega arith))))
