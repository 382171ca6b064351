-- A closed chain goes up as often as down, so that right of it nothing is wound around; the places of a curve lie between its three points. Assumes nothing.
use mathlib.Core.Path.{◌≡◌, refl, ap}
use mathlib.Core.Bool.{Bool, true, false}
use mathlib.Core.List.{List, [], ◌∷◌}
use Prim.Native.Nat.{ℕ, suc, ◌+◌, ◌-◌, ◌*◌, ◌%◌, ◌≤◌, ◌<◌}
use native.Mathlib.Nat.{mul-le-mul_left}
use native.Mathlib.Omega.{arith}
use lib.Dec.{ltb}
use lib.ListN.{length}
use Rattle.shown_rows.specs.Turns.{bit}
use Rattle.shown_rows.specs.Chains.{upward, downward, ups, downs, ending, place_at}

-- ---- chains
of-line : (a b : Bool) → upward a b + bit a ≡ downward a b + bit b
of-line true true = refl
of-line true false = refl
of-line false true = refl
of-line false false = refl

one_line : (a b : Bool) → upward a b + downward a b ≤ 1
one_line true true = omega arith
one_line true false = omega arith
one_line false true = omega arith
one_line false false = omega arith

of-chain : (y a : ℕ) (bs : List ℕ) → ups y a bs + bit (ltb y a) ≡ downs y a bs + bit (ltb y (ending a bs))
unfolding ups downs ending
of-chain y a [] = refl
of-chain y a (b ∷ bs) = omega (arith, of-line (ltb y a) (ltb y b), of-chain y b bs)

-- a chain that ends where it starts
pub closed : (y a : ℕ) (bs : List ℕ) → ending a bs ≡ a → ups y a bs ≡ downs y a bs
closed y a bs e = omega (arith, of-chain y a bs, ap (λ (z : ℕ). bit (ltb y z)) e)

-- each line once at the most
pub few : (y a : ℕ) (bs : List ℕ) → ups y a bs + downs y a bs ≤ length bs
unfolding ups downs
few y a [] = omega arith
few y a (b ∷ bs) = omega (arith, one_line (ltb y a) (ltb y b), few y b bs)

-- ---- the places of a curve
pub weights : (u k : ℕ) → u + k ≡ 16 → u * u + 2 * u * k + k * k ≡ 256
weights u k e = omega (arith, ap (λ (z : ℕ). z * u) e, ap (λ (z : ℕ). z * k) e)

module _ (p c q k y : ℕ) (h : k ≤ 16) where
  sum : (16 - k) * (16 - k) + 2 * (16 - k) * k + k * k ≡ 256
  sum = weights (16 - k) k (omega arith)

  -- not above a height, where none of the three is
  pub all-below : 256 * p ≤ y → 256 * c ≤ y → 256 * q ≤ y → place_at p c q k ≤ y
  all-below x z w =
      omega (
        arith,
        mul-le-mul_left ((16 - k) * (16 - k)) x,
        mul-le-mul_left (2 * (16 - k) * k) z,
        mul-le-mul_left (k * k) w,
        ap (λ (n : ℕ). n * y) sum,
      )

  -- above it, where all three are
  pub all_above : y < 256 * p → y < 256 * c → y < 256 * q → y < place_at p c q k
  all_above x z w =
      omega (
        arith,
        mul-le-mul_left ((16 - k) * (16 - k)) x,
        mul-le-mul_left (2 * (16 - k) * k) z,
        mul-le-mul_left (k * k) w,
        ap (λ (n : ℕ). n * suc y) sum,
      )

-- ---- what a column's number modulo 65,536 tells, where a line upward adds 1 to it, and one downward 65,535
pub unwound : (u d : ℕ) → u < 65536 → d < 65536 → (u + 65535 * d) % 65536 ≡ 0 → u ≡ d
unwound u d h k e = omega arith

pub none_left : (u d : ℕ) → u ≡ d → (u + 65535 * d) % 65536 ≡ 0
none_left u d e = omega arith
