-- The reach of a list's coordinates, and which lists are calm: no two of their coordinates are far apart.
use mathlib.Core.Path.{◌≡◌}
use mathlib.Core.Bool.{true}
use mathlib.Core.List.{List}
use Prim.Native.Nat.{ℕ, ◌+◌, ◌≤◌, ◌<◌}
use native.Mathlib.Decide.{dec_lt, ℕ_discrete}
use native.Mathlib.Omega.{arith}
use lib.ListN.{length, get_or-eq_default}
use lib.IntN.{ℤ, pos, nat_abs, ◌-ℤ◌}
use lib.Signed.{lt_z, ◌≤ℤ◌}
use Rattle.signed.proofs.Signed.{nat_abs-is, one-zero, sub-law, atmost, signed}
use Rattle.weak_contour.specs.Contour.{at}
use Rattle.weak.specs.Weak.{coordinates_hold}
use Rattle.weak.specs.Steps.{Reaches, least_far, most_near, Calm}
use Rattle.weak.proofs.Refusals.{coordinates-of}

-- ---- the loop: the reach of the coordinates in front of i
pub record Reached (c : List ℤ) (l m : ℤ) (i : ℕ) : Type 0 where
  pub low : l ≤ℤ pos 0
  pub high : pos 0 ≤ℤ m
  pub each : (j : ℕ) → j < i → (l ≤ℤ at c j) × (at c j ≤ℤ m)

pub reached-none : (c : List ℤ) → Reached c (pos 0) (pos 0) 0
reached-none c = record { low = record { le = tt }; high = record { le = tt }; each = λ j h. absurd (omega arith) }

pub reached-next : (c : List ℤ) (l m k n : ℤ) (i : ℕ) → Reached c l m i → k ≤ℤ l → k ≤ℤ at c i → m ≤ℤ n → at c i ≤ℤ n → Reached c k n (i + 1)
reached-next c l m k n i a kl kx mn xn = record {
  low = let w = a.low in atmost (omega (arith, signed));
  high = let w = a.high in atmost (omega (arith, signed));
  each = λ j h. by j h (ℕ_discrete j i);
}
  where
    by : (j : ℕ) → j < i + 1 → Dec (j ≡ i) → (k ≤ℤ at c j) × (at c j ≤ℤ n)
    by j h (yes q) = rw q (kx, xn)
    by j h (no q) = let b = a.each j (omega arith) in let b0 = b.0 in let b1 = b.1 in (atmost (omega (arith, signed)), atmost (omega (arith, signed)))

pub reached-all : (c : List ℤ) (l m : ℤ) (i : ℕ) → length c ≤ i → Reached c l m i → Reaches c l m
reached-all c l m i h r = record { low = r.low; high = r.high; each = λ j g. r.each j (omega arith) }

-- ---- calm lists
-- one whose ends are not far apart
pub calm-reach : (c : List ℤ) (l m : ℤ) → Reaches c l m → lt_z (m -ℤ l) (pos least_far) ≡ true → Calm c
calm-reach c l m r near i j =
    let a = about i (dec_lt i (length c)) in
    let b = about j (dec_lt j (length c)) in
    let a0 = a.0 in
    let a1 = a.1 in
    let b0 = b.0 in
    let b1 = b.1 in
    omega (arith, signed, sub-law m l, nat_abs-is (at c j -ℤ at c i), one-zero (at c j -ℤ at c i), sub-law (at c j) (at c i))
  where
    about : (p : ℕ) → Dec (p < length c) → (l ≤ℤ at c p) × (at c p ≤ℤ m)
    about p (yes h) = r.each p h
    about p (no h) = rw (get_or-eq_default c (pos 0) {n = p} (omega arith)) (r.low, r.high)

-- and one whose coordinates are all near 0
pub calm-near : (c : List ℤ) → coordinates_hold most_near c ≡ true → Calm c
calm-near c h i j =
    let a = coordinates-of most_near c h i in
    let b = coordinates-of most_near c h j in
    omega (arith, a, b, nat_abs-is (at c i), nat_abs-is (at c j), nat_abs-is (at c j -ℤ at c i), one-zero (at c j -ℤ at c i), sub-law (at c j) (at c i))
