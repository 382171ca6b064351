-- Counts, and what they add up to.
use mathlib.Core.Path.{◌≡◌, refl}
use mathlib.Core.Bool.{Bool, true, false}
use mathlib.Core.List.{List}
use Prim.Native.Nat.{ℕ, ◌+◌, ◌-◌, ◌≤◌, ◌<◌}
use native.Mathlib.Omega.{arith}
use borrow.Author.Tests.{eqb-true, eqb-false, eq-eqb, ne_eqb}
use lib.Dec.{eqb}
use lib.ListN.{length, get_or, drop, drop_of_length-le}
use Rattle.weak.proofs.Refusals.{drop-one}
use Rattle.weak_catalogue.specs.Catalogue.{total}

-- ---- the counts from j on
pub total-from : (ns : List ℕ) (j : ℕ) → j < length ns → total (drop j ns) ≡ get_or ns j 0 + total (drop (j + 1) ns)
unfolding total
total-from ns j h = rw (drop-one ns j 0 h)

-- behind the last nothing is left
pub total-none : (ns : List ℕ) (j : ℕ) → length ns ≤ j → total (drop j ns) ≡ 0
unfolding total
total-none ns j h = rw (drop_of_length-le ns h)

-- ---- the test, where so much is left of the length
module _ (left : ℕ) (ns : List ℕ) (j n : ℕ) (more : j < length ns) (e : n ≡ get_or ns j 0) where
  -- a count above what is left
  pub adds-over : left < n → eqb left (total (drop j ns)) ≡ false
  adds-over h = ne_eqb left (total (drop j ns)) (λ q. let t = total-from ns j more in absurd (omega arith))

  -- a count that is taken from it
  pub adds_on : n ≤ left → eqb left (total (drop j ns)) ≡ eqb (left - n) (total (drop (j + 1) ns))
  adds_on h = by (eqb (left - n) (total (drop (j + 1) ns))) refl
    where
      by : (b : Bool) → eqb (left - n) (total (drop (j + 1) ns)) ≡ b → eqb left (total (drop j ns)) ≡ b
      by true q = let t = total-from ns j more in let z = eqb-true (left - n) (total (drop (j + 1) ns)) q in eq-eqb left (total (drop j ns)) (omega arith)
      by false q = let t = total-from ns j more in ne_eqb left (total (drop j ns)) (λ p. eqb-false (left - n) (total (drop (j + 1) ns)) q (omega arith))
