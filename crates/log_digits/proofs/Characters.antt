-- Which characters are digits, and what they stand for.
use mathlib.Core.Path.{◌≡◌, refl, sym, ◌∙◌}
use mathlib.Core.Bool.{Bool, true, false, cond, ◌||◌}
use Prim.Native.Nat.{ℕ, ◌+◌, ◌-◌, ◌≤◌, ◌<◌}
use native.Mathlib.Omega.{arith}
use borrow.Author.Tests.{ltb-true, ltb-false, leb-true, le-leb, lt-leb, lt-ltb, le-ltb}
use lib.Dec.{leb, ltb}
use Rattle.refusals.proofs.Tests.{and_first, and_second}
use Rattle.log_digits.specs.Digits.{digit_of, is_figure, is_letter, is_digit, value_of}

-- ---- a character by where it stands among the others
module _ (c : ℕ) where
  -- 0 to 9
  pub figure : 48 ≤ c → c ≤ 57 → true ≡ is_digit c
  unfolding is_digit
  figure h k = rw (le-leb 48 c h, le-leb c 57 k)

  pub figure-value : 48 ≤ c → c ≤ 57 → c - 48 ≡ value_of c
  unfolding value_of
  figure-value h k = rw (le-leb 48 c h, le-leb c 57 k)

  -- A to F
  pub letter : 65 ≤ c → c ≤ 70 → true ≡ is_digit c
  unfolding is_digit
  letter h k = rw (le-leb 48 c (omega arith), lt-leb c 57 (omega arith), le-leb 65 c h, le-leb c 70 k)

  pub letter-value : 65 ≤ c → c ≤ 70 → c - 55 ≡ value_of c
  unfolding value_of
  letter-value h k = rw (le-leb 48 c (omega arith), lt-leb c 57 (omega arith), le-leb 65 c h, le-leb c 70 k)

  -- in front of the figures
  pub front : c < 48 → false ≡ is_digit c
  unfolding is_digit
  front h = rw (lt-leb 48 c h, lt-leb 65 c (omega arith))

  pub front-value : c < 48 → 0 ≡ value_of c
  unfolding value_of
  front-value h = rw (lt-leb 48 c h, lt-leb 65 c (omega arith))

  -- between them and the letters
  pub amid : 57 < c → c < 65 → false ≡ is_digit c
  unfolding is_digit
  amid h k = rw (le-leb 48 c (omega arith), lt-leb c 57 h, lt-leb 65 c k)

  pub amid-value : 57 < c → c < 65 → 0 ≡ value_of c
  unfolding value_of
  amid-value h k = rw (le-leb 48 c (omega arith), lt-leb c 57 h, lt-leb 65 c k)

  -- behind the letters
  pub behind : 70 < c → false ≡ is_digit c
  unfolding is_digit
  behind h = rw (le-leb 48 c (omega arith), lt-leb c 57 (omega arith), le-leb 65 c (omega arith), lt-leb c 70 h)

  pub behind-value : 70 < c → 0 ≡ value_of c
  unfolding value_of
  behind-value h = rw (le-leb 48 c (omega arith), lt-leb c 57 (omega arith), le-leb 65 c (omega arith), lt-leb c 70 h)

  -- ---- a value is below 16
  pub value-small : value_of c < 16
  unfolding value_of
  value-small = by (is_figure c) (is_letter c) refl refl
    where
      by : (f l : Bool) → is_figure c ≡ f → is_letter c ≡ l → cond f (c - 48) (cond l (c - 55) 0) < 16
      by true l p q = omega (arith, leb-true c 57 (and_second (leb 48 c) (leb c 57) p))
      by false true p q = omega (arith, leb-true c 70 (and_second (leb 65 c) (leb c 70) q))
      by false false p q = omega arith

  pub value-below : {v : ℕ} → v ≡ value_of c → v < 16
  value-below e = omega (arith, value-small, e)

  -- ---- the digit of a digit's value is that digit
  pub digit_value : is_digit c ≡ true → digit_of (value_of c) ≡ c
  unfolding digit_of is_digit value_of
  digit_value = by (is_figure c) (is_letter c) refl refl
    where
      by : (f l : Bool) → is_figure c ≡ f → is_letter c ≡ l → (f || l) ≡ true
          → cond (ltb (cond f (c - 48) (cond l (c - 55) 0)) 10) (48 + cond f (c - 48) (cond l (c - 55) 0)) (55 + cond f (c - 48) (cond l (c - 55) 0)) ≡ c
      by true l p q e =
          let low = leb-true 48 c (and_first (leb 48 c) (leb c 57) p) in
          let high = leb-true c 57 (and_second (leb 48 c) (leb c 57) p) in
          rw (lt-ltb (c - 48) 10 (omega arith)) (omega arith)
      by false true p q e =
          let low = leb-true 65 c (and_first (leb 65 c) (leb c 70) q) in
          let high = leb-true c 70 (and_second (leb 65 c) (leb c 70) q) in
          rw (le-ltb (c - 55) 10 (omega arith)) (omega arith)
      by false false p q e = absurd (let z : ◌≡◌ {A = ℕ} 0 1 = cc in omega arith)

-- ---- the digit of a value
module _ (v : ℕ) (small : v < 16) where
  -- the value of its digit is the value
  pub value-digit : value_of (digit_of v) ≡ v
  unfolding digit_of
  value-digit = by (ltb v 10) refl
    where
      by : (t : Bool) → ltb v 10 ≡ t → value_of (cond t (48 + v) (55 + v)) ≡ v
      by true e = let h = ltb-true v 10 e in sym (figure-value (48 + v) (omega arith) (omega arith)) ∙ omega arith
      by false e = let h = ltb-false v 10 e in sym (letter-value (55 + v) (omega arith) (omega arith)) ∙ omega arith

  -- which is a digit
  pub digit-is : is_digit (digit_of v) ≡ true
  unfolding digit_of
  digit-is = by (ltb v 10) refl
    where
      by : (t : Bool) → ltb v 10 ≡ t → is_digit (cond t (48 + v) (55 + v)) ≡ true
      by true e = let h = ltb-true v 10 e in sym (figure (48 + v) (omega arith) (omega arith))
      by false e = let h = ltb-false v 10 e in sym (letter (55 + v) (omega arith) (omega arith))

  -- the two digits by themselves
  pub digit_low : v < 10 → 48 + v ≡ digit_of v
  unfolding digit_of
  digit_low h = rw (lt-ltb v 10 h)

  pub digit-high : 10 ≤ v → 55 + v ≡ digit_of v
  unfolding digit_of
  digit-high h = rw (le-ltb v 10 h)
