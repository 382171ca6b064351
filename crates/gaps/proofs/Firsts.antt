-- How many numbers pass a test, and the first of them.
use Rattle.std.specs.Prelude.{None, Some}
use mathlib.Core.Path.{◌≡◌, refl, sym}
use mathlib.Core.Bool.{Bool, true, false, cond}
use mathlib.Core.Logic.{⊎_elim}
use Prim.Native.Nat.{ℕ, zero, suc, ◌+◌, ◌-◌, ◌≤◌, ◌<◌}
use native.Mathlib.Nat.{eq-or-lt_of_le}
use native.Mathlib.Numerals.{add-one}
use native.Mathlib.Omega.{arith}
use borrow.Author.Tests.{lt-ltb}
use lib.Dec.{ltb}
use Rattle.axis.specs.Link.{Link}
use Rattle.axis.specs.Link.{is_linked}
use Rattle.gaps.specs.Gaps.{counted, or_else, first_of}

-- ---- one number more
pub counted-more : (p : ℕ → Bool) (n : ℕ) → counted p (n + 1) ≡ cond (p n) (counted p n + 1) (counted p n)
unfolding counted
counted-more p n = rw add-one

pub first_more : (p : ℕ → Bool) (n : ℕ) → first_of p (n + 1) ≡ or_else (first_of p n) (cond (p n) (Some n) None)
unfolding first_of
first_more p n = rw add-one

-- no more pass than there are
pub counted-few : (p : ℕ → Bool) (n : ℕ) → counted p n ≤ n
unfolding counted
counted-few p zero = omega arith
counted-few p (suc n) = by (p n) (counted-few p n)
  where
    by : (t : Bool) → counted p n ≤ n → cond t (counted p n + 1) (counted p n) ≤ suc n
    by true h = omega arith
    by false h = omega arith

-- and fewer where the first of them fails
pub counted-fewer : (p : ℕ → Bool) (n : ℕ) → p 0 ≡ false → counted p n ≤ n - 1
unfolding counted
counted-fewer p zero e = omega arith
counted-fewer p (suc zero) e = rw e (omega arith)
counted-fewer p (suc (suc n)) e = by (p (suc n)) (counted-fewer p (suc n) e)
  where
    by : (t : Bool) → counted p (suc n) ≤ suc n - 1 → cond t (counted p (suc n) + 1) (counted p (suc n)) ≤ suc (suc n) - 1
    by true h = omega arith
    by false h = omega arith

-- each number that passes a test passes one of two, and only that: then as many pass it as pass the two
pub counted-parts : (p q r : ℕ → Bool) → ((i : ℕ) → cond (p i) 1 0 + cond (q i) 1 0 ≡ cond (r i) 1 0) → (n : ℕ) → counted p n + counted q n ≡ counted r n
unfolding counted
counted-parts p q r h zero = refl
counted-parts p q r h (suc n) = by (p n) (q n) (r n) (h n) (counted-parts p q r h n)
  where
    by : (x y z : Bool) → cond x 1 0 + cond y 1 0 ≡ cond z 1 0 → counted p n + counted q n ≡ counted r n
        → cond x (counted p n + 1) (counted p n) + cond y (counted q n + 1) (counted q n) ≡ cond z (counted r n + 1) (counted r n)
    by true true true a b = absurd (omega arith)
    by true true false a b = absurd (omega arith)
    by true false true a b = omega arith
    by true false false a b = absurd (omega arith)
    by false true true a b = omega arith
    by false true false a b = absurd (omega arith)
    by false false true a b = absurd (omega arith)
    by false false false a b = b

-- where none passes each fails
pub counted_none : (p : ℕ → Bool) (n : ℕ) → counted p n ≡ 0 → (i : ℕ) → i < n → p i ≡ false
unfolding counted
counted_none p zero e i h = absurd (omega arith)
counted_none p (suc n) e i h = by (counted_none p n) (p n) refl e
  where
    by : (counted p n ≡ 0 → (k : ℕ) → k < n → p k ≡ false) → (t : Bool) → p n ≡ t → cond t (counted p n + 1) (counted p n) ≡ 0 → p i ≡ false
    by rest true q e = absurd (omega arith)
    by rest false q e = ⊎_elim (λ (w : i ≡ n). rw w q) (λ (g : i < n). rest e i g) (eq-or-lt_of_le (omega arith))

-- some pass exactly where there is a first
pub counted-first : (p : ℕ → Bool) (n : ℕ) → ltb 0 (counted p n) ≡ is_linked (first_of p n)
unfolding counted first_of
counted-first p zero = refl
counted-first p (suc n) = by (p n) (first_of p n) (counted-first p n)
  where
    by : (t : Bool) (l : Link) → ltb 0 (counted p n) ≡ is_linked l
        → ltb 0 (cond t (counted p n + 1) (counted p n)) ≡ is_linked (or_else l (cond t (Some n) None))
    by true None h = lt-ltb 0 (counted p n + 1) (omega arith)
    by true (Some k) h = lt-ltb 0 (counted p n + 1) (omega arith)
    by false None h = h
    by false (Some k) h = h

-- ---- what the first is
-- k passes, and no number in front of it does
pub record IsFirst (p : ℕ → Bool) (n k : ℕ) : Type 0 where
  pub below : k < n
  pub passes : p k ≡ true
  pub earlier : (i : ℕ) → i < k → p i ≡ false

-- a test fails of each number below n
pub record NonePasses (p : ℕ → Bool) (n : ℕ) : Type 0 where
  pub fails : (i : ℕ) → i < n → p i ≡ false

-- what l is: the first of n numbers
pub record First (p : ℕ → Bool) (n : ℕ) (l : Link) : Type 0 where
  pub none : l ≡ None → NonePasses p n
  pub some : (k : ℕ) → l ≡ Some k → IsFirst p n k

no-link : {k : ℕ} → Some k ≡ None → ⊥
no-link e = let z : ◌≡◌ {A = ℕ} 0 1 = cc in omega arith

pub first_is : (p : ℕ → Bool) (n : ℕ) → First p n (first_of p n)
unfolding first_of
first_is p zero = record { none = λ e. record { fails = λ i h. absurd (omega arith) }; some = λ k e. absurd (no-link (sym e)) }
first_is p (suc n) = by (p n) refl (first_of p n) (first_is p n)
  where
    one_more : NonePasses p n → p n ≡ false → (i : ℕ) → i < suc n → p i ≡ false
    one_more f q i h = ⊎_elim (λ (e : i ≡ n). rw e q) (λ (g : i < n). f.fails i g) (eq-or-lt_of_le (omega arith))

    by : (t : Bool) → p n ≡ t → (l : Link) → First p n l → First p (suc n) (or_else l (cond t (Some n) None))
    by t q (Some j) f = record {
      none = λ e. absurd (no-link e);
      some =
          λ (k : ℕ) (e : Some j ≡ Some k). let g = f.some k e in record { below = omega (arith, g.below); passes = g.passes; earlier = g.earlier };
    }
    by true q None f = record {
      none = λ e. absurd (no-link e);
      some =
          λ (k : ℕ) (e : Some n ≡ Some k). let w : n ≡ k = cc in rw (sym w) (record { below = omega arith; passes = q; earlier = (f.none refl).fails });
    }
    by false q None f = record {
      none = λ e. record { fails = one_more (f.none refl) q };
      some = λ k e. absurd (no-link (sym e));
    }
