-- Demand 3's arithmetic at request #109's range: q is the fixed quotient of c by s and r the fixed product of d and q. How far s·r is from d·c, how far r may
-- be
-- outside of 0 and c, that r grows with d, and when q is too steep. First over magnitudes, each law at a range at least as wide as it is needed, then for
-- signed numbers.
use mathlib.Core.Path.{◌≡◌, ap}
use mathlib.Core.Bool.{true, false}
use mathlib.Core.Logic.{⊎_elim}
use Prim.Native.Nat.{ℕ, zero, suc, ◌+◌, ◌*◌, ◌≤◌, ◌<◌}
use native.Mathlib.Nat.{mul-le-mul_left, mul-le-mul_right, mul-zero}
use native.Mathlib.Omega.{arith}
use borrow.Author.Tests.{ltb-true, ltb-false, lt-ltb, le-ltb}
use lib.Dec.{ltb}
use lib.IntN.{ℤ, pos, negsuc, nat_abs, ◌-ℤ◌, ◌*ℤ◌}
use mir.Syntax.{w32}
use mir.Val.{SFits}
use Rattle.signed.specs.Parts.{up, dn}
use Rattle.signed.specs.Range.{Between}
use Rattle.signed.proofs.Signed.{nat_abs-is, one-zero, sub-law, times-up, times-dn, fits-abs, to-sfits, lt-or-le}
use Rattle.fixed.specs.Point.{rounded, mul_fix, div_fix}
use Rattle.fixed.proofs.Rounding.{rounded-law, rounded-zero, rounded-grows, div-up, div-dn, mul-fix-up, mul-fix-dn}
use Rattle.fixed.specs.Divide.{steepest, too_steep}

-- ---- ranges
-- spans, and how far currents are apart
abbrev pub most_delta : ℕ
most_delta = 131070

-- the longest span at which nothing comes to lie outside
abbrev pub most_inside : ℕ
most_inside = 65536

-- the longest span at which the error is below 3/4
abbrev pub most_old : ℕ
most_old = 32768

-- ---- magnitudes
unfoldable pub interp : ℕ → ℕ → ℕ → ℕ
interp d c s = rounded (d * rounded (c * 65536) s) 65536

module _ (d c s : ℕ) (positive : 0 < s) where
  -- each rounding adds at most a half: 131,072·|s·r − d·c| ≤ s·(d + 65,536), so |r − d·c/s| ≤ 1/2 + d/131,072
  pub not-far-above : 131072 * (s * interp d c s) ≤ 131072 * (d * c) + s * (d + 65536)
  unfolding interp
  not-far-above =
      let q = rounded-law (c * 65536) s positive in
      let r = rounded-law (d * rounded (c * 65536) s) 65536 (omega arith) in
      omega (arith, mul-le-mul_right d q.not_above, mul-le-mul_right s r.not_above)

  pub not-far-below : 131072 * (d * c) ≤ 131072 * (s * interp d c s) + s * (d + 65536)
  unfolding interp
  not-far-below =
      let q = rounded-law (c * 65536) s positive in
      let r = rounded-law (d * rounded (c * 65536) s) 65536 (omega arith) in
      omega (arith, mul-le-mul_right d q.not_below, mul-le-mul_right s r.not_below)

  -- at a span of at most 65,536 no place in front of its end passes c
  pub not-past : d < s → s ≤ most_inside → interp d c s ≤ c
  unfolding interp rounded
  not-past h small =
      let q = rounded (c * 65536) s in
      let l = rounded-law (c * 65536) s positive in
      ⊎_elim (λ z. omega (arith, mul-le-mul_right q h, l.not_above)) (λ z. omega (arith, mul-le-mul_left d z)) (lt-or-le 0 q)

  -- at a span below 196,608 none passes it by more than one
  pub past-by-one : d ≤ s → s < 196608 → interp d c s ≤ c + 1
  unfolding interp rounded
  past-by-one h small =
      let l = rounded-law (c * 65536) s positive in
      omega (arith, mul-le-mul_right (rounded (c * 65536) s) h, l.not_above)

-- level references give 0
pub interp-zero : (d s : ℕ) → 0 < s → interp d 0 s ≡ 0
unfolding interp
interp-zero d s positive = rw (rounded-zero s positive, mul-zero d) (rounded-zero 65536 (omega arith))

-- so nothing is on the other side of the first reference
pub same-side : (d c s : ℕ) → 0 < s → d ≤ s → s < 196608 → interp d c s ≤ 2 * c
same-side d zero s p h small = omega (arith, interp-zero d s p)
same-side d (suc c) s p h small = omega (arith, past-by-one d (suc c) s p h small)

pub interp-grows : (d e c s : ℕ) → d ≤ e → interp d c s ≤ interp e c s
unfolding interp
interp-grows d e c s h = rounded-grows (d * rounded (c * 65536) s) (e * rounded (c * 65536) s) 65536 (omega arith) (mul-le-mul_right (rounded (c * 65536) s) h)

-- the quotient is beyond 2,147,483,647 exactly where the rise is 32,768 spans or more: rounding never decides
module _ (c s : ℕ) (positive : 0 < s) (small : s < 131072) where
  pub steep-rise : steepest < rounded (c * 65536) s → 32768 * s ≤ c
  steep-rise h = let l = rounded-law (c * 65536) s positive in omega (arith, mul-le-mul_right s h, l.not_above)

  pub gentle-rise : rounded (c * 65536) s ≤ steepest → c < 32768 * s
  gentle-rise h = let l = rounded-law (c * 65536) s positive in omega (arith, mul-le-mul_right s h, l.not_below)

-- ---- signed numbers, with d and s not below zero
-- the parts of r are what the parts of c give
module _ (d : ℕ) (c : ℤ) (s : ℕ) (positive : 0 < s) where
  interp-up : up (mul_fix (pos d) (div_fix c (pos s))) ≡ interp d (up c) s
  unfolding interp
  interp-up = rw (mul-fix-up d (div_fix c (pos s)), div-up c s positive)

  interp-dn : dn (mul_fix (pos d) (div_fix c (pos s))) ≡ interp d (dn c) s
  unfolding interp
  interp-dn = rw (mul-fix-dn d (div_fix c (pos s)), div-dn c s positive)

-- less than k/4 from the straight line, both sides times 4 spans: k is 6 where d is below 131,072, and 3 where it is below 32,768
module _ (k d s : ℕ) (small : 2 * d + 131072 < k * 65536) (positive : 0 < s) where
  close-above : (c : ℕ) → 4 * s * interp d c s < 4 * d * c + k * s
  close-above c = omega (arith, not-far-above d c s positive, mul-le-mul_right s small)

  close-below : (c : ℕ) → 4 * d * c < 4 * s * interp d c s + k * s
  close-below c = omega (arith, not-far-below d c s positive, mul-le-mul_right s small)

  close : (c r : ℤ) → up r ≡ interp d (up c) s → dn r ≡ interp d (dn c) s → nat_abs (pos 4 *ℤ pos s *ℤ r -ℤ pos 4 *ℤ pos d *ℤ c) < k * s
  close c r p n =
      let x = pos (4 * s) *ℤ r in
      let y = pos (4 * d) *ℤ c in
      omega (
        arith,
        nat_abs-is (x -ℤ y),
        one-zero (x -ℤ y),
        sub-law x y,
        times-up (4 * s) r,
        times-dn (4 * s) r,
        times-up (4 * d) c,
        times-dn (4 * d) c,
        ap (λ (x : ℕ). 4 * s * x) p,
        ap (λ (x : ℕ). 4 * s * x) n,
        by c,
      )
    where
      -- what remains of the two parts, of which one is 0
      by :
          (c : ℤ)
          → (4 * s * interp d (up c) s + 4 * d * dn c < 4 * s * interp d (dn c) s + 4 * d * up c + k * s)
          × (4 * s * interp d (dn c) s + 4 * d * up c < 4 * s * interp d (up c) s + 4 * d * dn c + k * s)
      by (pos n) = rw (interp-zero d s positive) (omega (arith, close-above n, close-below n))
      by (negsuc n) = rw (interp-zero d s positive) (omega (arith, close-above (suc n), close-below (suc n)))

-- demand 3 of a point that is d behind the first of two references, where the second is s behind it, their currents are c apart, and the point ends r
-- behind the first's current
pub record AlongLine (d c s r : ℤ) : Type 0 where
  -- less than 3/2 units from the straight line, both sides times 4 spans
  pub close : nat_abs (pos 4 *ℤ s *ℤ r -ℤ pos 4 *ℤ d *ℤ c) < 6 * nat_abs s
  -- at most one beyond c
  pub not_above : up r ≤ up c + 1
  pub not_below : dn r ≤ dn c + 1
  -- and on c's side of 0: it is 0 where c is
  pub side_up : up r ≤ 2 * up c
  pub side_dn : dn r ≤ 2 * dn c

-- the same at shorter spans: between 0 and c
pub record Inside (c r : ℤ) : Type 0 where
  pub not_above : up r ≤ up c
  pub not_below : dn r ≤ dn c

-- 0 ≤ d < s ≤ 131,070, whatever c is
pub along-line : (d c s : ℤ) → dn d ≤ up d → up d + dn s < up s + dn d → up s ≤ dn s + most_delta → AlongLine d c s (mul_fix d (div_fix c s))
along-line (pos d) c (pos s) h k l =
    let positive : 0 < s = omega arith in
    let p = interp-up d c s positive in
    let n = interp-dn d c s positive in
    record {
      close = close 6 d s (omega arith) positive c (mul_fix (pos d) (div_fix c (pos s))) p n;
      not_above = omega (arith, past-by-one d (up c) s positive (omega arith) (omega arith));
      not_below = omega (arith, past-by-one d (dn c) s positive (omega arith) (omega arith));
      side_up = omega (arith, same-side d (up c) s positive (omega arith) (omega arith));
      side_dn = omega (arith, same-side d (dn c) s positive (omega arith) (omega arith));
    }
along-line (pos d) c (negsuc s) h k l = absurd (omega arith)
along-line (negsuc d) c s h k l = absurd (omega arith)

-- s ≤ 65,536
pub inside-line : (d c s : ℤ) → dn d ≤ up d → up d + dn s < up s + dn d → up s ≤ dn s + most_inside → Inside c (mul_fix d (div_fix c s))
inside-line (pos d) c (pos s) h k l =
    let positive : 0 < s = omega arith in
    let p = interp-up d c s positive in
    let n = interp-dn d c s positive in
    record {
      not_above = omega (arith, not-past d (up c) s positive (omega arith) (omega arith));
      not_below = omega (arith, not-past d (dn c) s positive (omega arith) (omega arith));
    }
inside-line (pos d) c (negsuc s) h k l = absurd (omega arith)
inside-line (negsuc d) c s h k l = absurd (omega arith)

-- s ≤ 32,768: document 01's 3/4 unit
pub closer-line : (d c s : ℤ) → dn d ≤ up d → up d + dn s < up s + dn d → up s ≤ dn s + most_old
    → nat_abs (pos 4 *ℤ s *ℤ mul_fix d (div_fix c s) -ℤ pos 4 *ℤ d *ℤ c) < 3 * nat_abs s
closer-line (pos d) c (pos s) h k l =
    let positive : 0 < s = omega arith in
    close 3 d s (omega arith) positive c (mul_fix (pos d) (div_fix c (pos s))) (interp-up d c s positive) (interp-dn d c s positive)
closer-line (pos d) c (negsuc s) h k l = absurd (omega arith)
closer-line (negsuc d) c s h k l = absurd (omega arith)

-- 0 ≤ d ≤ e and 0 < s: r grows with d where c is above zero, and falls where it is below
pub interpolation-grows :
    (d e c s : ℤ) → dn d ≤ up d → up d + dn e ≤ up e + dn d → dn s < up s
    → (up (mul_fix d (div_fix c s)) ≤ up (mul_fix e (div_fix c s))) × (dn (mul_fix d (div_fix c s)) ≤ dn (mul_fix e (div_fix c s)))
interpolation-grows (pos d) (pos e) c (pos s) h k l =
    omega (
      arith,
      interp-up d c s (omega arith),
      interp-up e c s (omega arith),
      interp-dn d c s (omega arith),
      interp-dn e c s (omega arith),
      interp-grows d e (up c) s (omega arith),
      interp-grows d e (dn c) s (omega arith),
    )
interpolation-grows (pos d) (negsuc e) c s h k l = absurd (omega arith)
interpolation-grows (pos d) (pos e) c (negsuc s) h k l = absurd (omega arith)
interpolation-grows (negsuc d) e c s h k l = absurd (omega arith)

-- ---- too steep
-- the magnitude of a quotient by a positive divisor
quotient-abs : (c : ℤ) (s : ℕ) → 0 < s → nat_abs (div_fix c (pos s)) ≡ rounded (nat_abs c * 65536) s
quotient-abs (pos n) s h = omega (arith, nat_abs-is (div_fix (pos n) (pos s)), div-up (pos n) s h, div-dn (pos n) s h, rounded-zero s h)
quotient-abs (negsuc n) s h = omega (arith, nat_abs-is (div_fix (negsuc n) (pos s)), div-up (negsuc n) s h, div-dn (negsuc n) s h, rounded-zero s h)

-- a rise of 32,768 spans or more, for 0 < s < 131,072
pub steep-is : (c : ℤ) (s : ℕ) → 0 < s → s < 131072 → too_steep c (pos s) ≡ true → 32768 * s ≤ nat_abs c
unfolding too_steep
steep-is c s h k e = let l = ltb-true steepest (nat_abs (div_fix c (pos s))) e in steep-rise (nat_abs c) s h k (omega (arith, l, quotient-abs c s h))

pub is-steep : (c : ℤ) (s : ℕ) → 0 < s → s < 131072 → 32768 * s ≤ nat_abs c → too_steep c (pos s) ≡ true
unfolding too_steep
is-steep c s h k l =
    ⊎_elim (λ g. lt-ltb steepest (nat_abs (div_fix c (pos s))) g)
    (λ g. absurd (omega (arith, gentle-rise (nat_abs c) s h k (omega (arith, g, quotient-abs c s h)))))
    (lt-or-le steepest (nat_abs (div_fix c (pos s))))

-- a rise of less: not too steep
pub not-steep : (c : ℤ) (s : ℕ) → 0 < s → s < 131072 → nat_abs c < 32768 * s → too_steep c (pos s) ≡ false
unfolding too_steep
not-steep c s h k l =
    ⊎_elim (λ g. absurd (omega (arith, steep-rise (nat_abs c) s h k (omega (arith, g, quotient-abs c s h)))))
    (λ g. le-ltb steepest (nat_abs (div_fix c (pos s))) g)
    (lt-or-le steepest (nat_abs (div_fix c (pos s))))

-- so at coordinates up to 65,535, where currents are at most 131,070 apart, a span of 4 and more is never too steep
pub long-gentle : (c : ℤ) (s : ℕ) → 4 ≤ s → s < 131072 → nat_abs c ≤ most_delta → too_steep c (pos s) ≡ false
long-gentle c s h k l = not-steep c s (omega arith) k (omega arith)

-- and currents less than 65,536 apart are not too steep at a span of 2 and more, of which alone something lies strictly between
pub calm-gentle : (c : ℤ) (s : ℕ) → 2 ≤ s → s < 131072 → nat_abs c < 65536 → too_steep c (pos s) ≡ false
calm-gentle c s h k l = not-steep c s (omega arith) k (omega arith)

-- ---- what the code needs
pub record Fitting (d c s : ℤ) : Type 0 where
  pub divisor : 0 < nat_abs s
  pub quotient : SFits w32 (div_fix c s)
  pub product : SFits w32 (mul_fix d (div_fix c s))

-- 0 ≤ d < s ≤ 131,070, |c| ≤ 131,070, and not too steep
pub fitting : (d c s : ℤ) → dn d ≤ up d → up d + dn s < up s + dn d → up s ≤ dn s + most_delta → Between most_delta most_delta c → too_steep c s ≡ false
    → Fitting d c s
unfolding too_steep
fitting (pos d) c (pos s) h k l b e =
    let f = along-line (pos d) c (pos s) h k l in
    record {
      divisor = omega arith;
      quotient = fits-abs (omega (arith, ltb-false steepest (nat_abs (div_fix c (pos s))) e));
      product = to-sfits w32 (mul_fix (pos d) (div_fix c (pos s))) (omega (arith, b, one-zero c, f.not_above, f.not_below));
    }
fitting (pos d) c (negsuc s) h k l b e = absurd (omega arith)
fitting (negsuc d) c s h k l b e = absurd (omega arith)
