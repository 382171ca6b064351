-- Sums below a number: what is met once, of a kind, and as often in all as there are of the kind, is all of them.
use mathlib.Core.Path.{◌≡◌, refl, sym, ap, ◌∙◌}
use mathlib.Core.Bool.{Bool, true, false, cond}
use mathlib.Core.List.{List, [], ◌∷◌}
use mathlib.Core.Logic.{⊎_elim}
use Prim.Native.Nat.{ℕ, zero, suc, ◌+◌, ◌≤◌, ◌<◌}
use native.Mathlib.Nat.{eq-or-lt_of_le}
use native.Mathlib.Numerals.{add-one}
use native.Mathlib.Omega.{arith}
use borrow.Author.Tests.{eq-eqb, ne_eqb}
use lib.Dec.{eqb}
use lib.ListN.{length}
use Rattle.axis.specs.Ring.{times}
use Rattle.mend.specs.Following.{total, count}
use Rattle.axis.proofs.Walks.{times-nil, times-here, met-behind}

-- ---- laws of sums
pub total-none : (f : ℕ → ℕ) → total f 0 ≡ 0
unfolding total
total-none f = refl

pub total-more : (f : ℕ → ℕ) (n : ℕ) → total f (n + 1) ≡ total f n + f n
unfolding total
total-more f n = rw add-one

pub total-same : (f g : ℕ → ℕ) (n : ℕ) → ((i : ℕ) → i < n → f i ≡ g i) → total f n ≡ total g n
unfolding total
total-same f g zero h = refl
total-same f g (suc n) h = omega (arith, total-same f g n (λ i l. h i (omega arith)), h n (omega arith))

total-le : (f g : ℕ → ℕ) (n : ℕ) → ((i : ℕ) → i < n → f i ≤ g i) → total f n ≤ total g n
unfolding total
total-le f g zero h = omega arith
total-le f g (suc n) h = omega (arith, total-le f g n (λ i l. h i (omega arith)), h n (omega arith))

total-plus : (f g : ℕ → ℕ) (n : ℕ) → total (λ (i : ℕ). f i + g i) n ≡ total f n + total g n
unfolding total
total-plus f g zero = refl
total-plus f g (suc n) = omega (arith, total-plus f g n)

total-zero : (f : ℕ → ℕ) (n : ℕ) → ((i : ℕ) → i < n → f i ≡ 0) → total f n ≡ 0
unfolding total
total-zero f zero h = refl
total-zero f (suc n) h = omega (arith, total-zero f n (λ i l. h i (omega arith)), h n (omega arith))

pub count-few : (p : ℕ → Bool) (n : ℕ) → count p n ≤ n
unfolding total
count-few p zero = omega arith
count-few p (suc n) = by (p n) (count-few p n)
  where
    by : (b : Bool) → count p n ≤ n → count p n + cond b 1 0 ≤ suc n
    by true h = omega arith
    by false h = omega arith

-- sums of which one is below the other number by number, and not below it in all, are the same number by number
pub sums_same : (f g : ℕ → ℕ) (n : ℕ) → ((i : ℕ) → i < n → f i ≤ g i) → total g n ≤ total f n → (i : ℕ) → i < n → f i ≡ g i
unfolding total
sums_same f g zero h s i l = absurd (omega arith)
sums_same f g (suc n) h s i l =
    let a = total-le f g n (λ j q. h j (omega arith)) in
    let b = h n (omega arith) in
    ⊎_elim
    (λ (e : i ≡ n). ap f e ∙ (let q : f n ≡ g n = omega arith in q) ∙ ap g (sym e))
    (λ (q : i < n). sums_same f g n (λ j r. h j (omega arith)) (omega arith) i q)
    (eq-or-lt_of_le (omega arith))

-- ---- how often the numbers of a list are met, in all
one_of : (m n : ℕ) → m < n → total (λ (i : ℕ). cond (eqb i m) 1 0) n ≡ 1
unfolding total
one_of m zero h = absurd (omega arith)
one_of m (suc n) h =
    ⊎_elim
    (λ (e : m ≡ n).
    rw (eq-eqb n m (sym e)) (omega (arith, total-zero (λ (i : ℕ). cond (eqb i m) 1 0) n (λ i l. rw (ne_eqb i m (λ (q : i ≡ m). omega arith))))))
    (λ (q : m < n). rw (ne_eqb n m (λ (r : n ≡ m). omega arith)) (omega (arith, one_of m n q)))
    (eq-or-lt_of_le (omega arith))

pub total-times : (n : ℕ) (ms : List ℕ) → ((x : ℕ) → 0 < times x ms → x < n) → total (λ (i : ℕ). times i ms) n ≡ length ms
unfolding times
total-times n [] h = total-zero (λ (i : ℕ). times i []) n (λ i l. times-nil i)
total-times n (m ∷ ms) h =
    let a = one_of m n (h m (omega (arith, times-here m m ms refl))) in
    let b = total-times n ms (λ x p. h x (met-behind x m ms p)) in
    total-plus (λ (i : ℕ). cond (eqb i m) 1 0) (λ (i : ℕ). times i ms) n ∙ omega arith

-- ---- all of them
-- numbers below n, each met once at most, all of a kind, and as many as there are of it: each of the kind is met once, and no other
pub all-met : (own : ℕ → Bool) (n : ℕ) (ms : List ℕ) → ((x : ℕ) → 0 < times x ms → x < n) → ((x : ℕ) → 0 < times x ms → own x ≡ true)
    → ((x : ℕ) → times x ms ≤ 1)
    → length ms ≡ count own n → (i : ℕ) → i < n → times i ms ≡ cond (own i) 1 0
all-met own n ms b o u e = sums_same (λ (i : ℕ). times i ms) (λ (i : ℕ). cond (own i) 1 0) n le (omega (arith, total-times n ms b))
  where
    le : (i : ℕ) → i < n → times i ms ≤ cond (own i) 1 0
    le i l = by (own i) (o i) (u i)
      where
        by : (t : Bool) → (0 < times i ms → t ≡ true) → times i ms ≤ 1 → times i ms ≤ cond t 1 0
        by true h g = g
        by false h g = zero_of (times i ms) h
          where
            zero_of : (k : ℕ) → (0 < k → false ≡ true) → k ≤ 0
            zero_of zero h = omega arith
            zero_of (suc k) h = absurd (let q = h (omega arith) in let z : ◌≡◌ {A = ℕ} 0 1 = cc in omega arith)
