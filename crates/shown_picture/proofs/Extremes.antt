-- The least and the largest of numbers. Assumes nothing.
use mathlib.Core.Path.{◌≡◌}
use mathlib.Core.Bool.{true, false}
use mathlib.Core.List.{List}
use Prim.Native.Nat.{ℕ, ◌+◌, ◌<◌}
use native.Mathlib.Decide.{ℕ_discrete}
use native.Mathlib.Omega.{arith}
use lib.IntN.{ℤ}
use lib.Signed.{lt_z, ◌≤ℤ◌}
use Rattle.signed.proofs.Signed.{signed, atmost}
use Rattle.weak_contour.specs.Contour.{at}
use Rattle.shown_picture.specs.Window.{Lesser, Greater, Spread}

-- ---- of two
module _ (l : List ℤ) (i j : ℕ) where
  pub lesser-second : lt_z (at l j) (at l i) ≡ true → Lesser l i j j
  lesser-second h = record { first = atmost (omega (arith, signed)); second = atmost (omega (arith, signed)); inside = λ n a b. b }

  pub lesser-first : lt_z (at l j) (at l i) ≡ false → Lesser l i j i
  lesser-first h = record { first = atmost (omega (arith, signed)); second = atmost (omega (arith, signed)); inside = λ n a b. a }

  pub greater-second : lt_z (at l i) (at l j) ≡ true → Greater l i j j
  greater-second h = record { first = atmost (omega (arith, signed)); second = atmost (omega (arith, signed)); inside = λ n a b. b }

  pub greater-first : lt_z (at l i) (at l j) ≡ false → Greater l i j i
  greater-first h = record { first = atmost (omega (arith, signed)); second = atmost (omega (arith, signed)); inside = λ n a b. a }

-- ---- of those in front of i
pub spread-one : (l : List ℤ) → Spread l 1 0 0
spread-one l = record { from = λ k h. alike k h; to = λ k h. alike' k h; least_in = omega arith; largest_in = omega arith }
  where
    alike : (k : ℕ) → k < 1 → at l 0 ≤ℤ at l k
    alike k h = let e : k ≡ 0 = omega arith in rw e (atmost (omega (arith, signed)))

    alike' : (k : ℕ) → k < 1 → at l k ≤ℤ at l 0
    alike' k h = let e : k ≡ 0 = omega arith in rw e (atmost (omega (arith, signed)))

pub spread-more : (l : List ℤ) (i a b c d : ℕ) → Spread l i a b → Lesser l a i c → Greater l b i d → Spread l (i + 1) c d
spread-more l i a b c d s p q = record {
  from = λ k h. low k h (ℕ_discrete k i);
  to = λ k h. high k h (ℕ_discrete k i);
  least_in = p.inside (i + 1) (omega (arith, s.least_in)) (omega arith);
  largest_in = q.inside (i + 1) (omega (arith, s.largest_in)) (omega arith);
}
  where
    low : (k : ℕ) → k < i + 1 → Dec (k ≡ i) → at l c ≤ℤ at l k
    low k h (yes e) = rw e p.second
    low k h (no e) = let x = p.first in let y = s.from k (omega arith) in atmost (omega (arith, signed))

    high : (k : ℕ) → k < i + 1 → Dec (k ≡ i) → at l k ≤ℤ at l d
    high k h (yes e) = rw e q.second
    high k h (no e) = let x = q.first in let y = s.to k (omega arith) in atmost (omega (arith, signed))
