-- Tests: of a number, and of each place of a table.
use mathlib.Core.Path.{◌≡◌, refl, sym, ap, ◌∙◌}
use mathlib.Core.Bool.{Bool, true, false, ◌&&◌}
use mathlib.Core.Logic.{⊎_elim}
use Prim.Native.Nat.{ℕ, zero, suc, ◌+◌, ◌<◌, ◌≤◌}
use native.Mathlib.Nat.{eq-or-lt_of_le}
use native.Mathlib.Numerals.{add-one}
use native.Mathlib.Omega.{arith}
use lib.IntN.{ℤ}
use lib.Signed.{le_z}
use Rattle.refusals.proofs.Tests.{and_first, and_second}
use Rattle.axis.specs.Refusals.{inside, every}

-- ---- and
pub and-false : (x : Bool) → (x && false) ≡ false
and-false true = refl
and-false false = refl

-- ---- a number, whose tests go through its bits
pub inside-high : (lo hi z lo' hi' z' : ℤ) → lo' ≡ lo → hi' ≡ hi → z' ≡ z → le_z lo' z' ≡ true → le_z z' hi' ≡ inside lo hi z
inside-high lo hi z lo' hi' z' a b c h = let g : le_z lo z ≡ true = rw (a, c) at h in rw (g, b, c)

pub inside-low : (lo hi z lo' z' : ℤ) → lo' ≡ lo → z' ≡ z → le_z lo' z' ≡ false → false ≡ inside lo hi z
inside-low lo hi z lo' z' a c h = let g : le_z lo z ≡ false = rw (a, c) at h in rw g

-- a test's answer r, given to a number by its bits z'
pub tested : (p : ℤ → Bool) (z z' : ℤ) (r v : Bool) → z' ≡ z → r ≡ p z' → r ≡ v → p z ≡ v
tested p z z' r v e h g = sym (h ∙ ap p e) ∙ g

-- ---- every place
pub every-none : (p : ℕ → Bool) → every p 0 ≡ true
unfolding every
every-none p = refl

pub every_more : (p : ℕ → Bool) (i : ℕ) → every p i ≡ true → p i ≡ true → every p (i + 1) ≡ true
unfolding every
every_more p i h g = rw (add-one, h) g

pub every-fails : (p : ℕ → Bool) (i n : ℕ) → i < n → p i ≡ false → every p n ≡ false
unfolding every
every-fails p i zero h g = absurd (omega arith)
every-fails p i (suc n) h g =
    ⊎_elim (λ w. let g' : p n ≡ false = rw w at g in rw g' (and-false (every p n))) (λ w. rw (every-fails p i n w g)) (eq-or-lt_of_le (omega arith))

pub every-at : (p : ℕ → Bool) (i n : ℕ) → every p n ≡ true → i < n → p i ≡ true
unfolding every
every-at p i zero h g = absurd (omega arith)
every-at p i (suc n) h g = ⊎_elim (λ w. ap p w ∙ and_second (every p n) _ h) (λ w. every-at p i n (and_first _ _ h) w) (eq-or-lt_of_le (omega arith))

pub every-done : (p : ℕ → Bool) (i n m : ℕ) → i ≤ n → n ≤ i → n ≡ m → every p i ≡ true → true ≡ every p m
every-done p i n m h g e r = let q : i ≡ m = omega arith in sym (rw q at r)
