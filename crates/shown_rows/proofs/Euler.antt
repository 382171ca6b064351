-- Corners and pixels less sides are outer less inner turns: at one corner by its sixteen cases, and so in every sum over corners. Assumes nothing.
use mathlib.Core.Path.{◌≡◌, refl, sym, ap, ◌∙◌}
use mathlib.Core.Bool.{Bool, true, false}
use Prim.Native.Nat.{ℕ, zero, suc, ◌+◌, ◌≤◌}
use mir.Syntax.{w32}
use mir.Val.{Fits}
use native.Mathlib.Omega.{arith}
use Rattle.shown_rows.specs.Turns.{most_columns, bit, corner, sides, pixel, outer, inner, total, before}

-- at one corner
pub at-corner : (a b c d : Bool) → corner a b c d + pixel a b c d + inner b c d ≡ sides a b c d + outer a b c d
at-corner true true true true = refl
at-corner true true true false = refl
at-corner true true false true = refl
at-corner true true false false = refl
at-corner true false true true = refl
at-corner true false true false = refl
at-corner true false false true = refl
at-corner true false false false = refl
at-corner false true true true = refl
at-corner false true true false = refl
at-corner false true false true = refl
at-corner false true false false = refl
at-corner false false true true = refl
at-corner false false true false = refl
at-corner false false false true = refl
at-corner false false false false = refl

-- such an equation holds of sums
pub of-totals : (f g h s t : ℕ → ℕ) → ((i : ℕ) → f i + g i + h i ≡ s i + t i) → (n : ℕ) → total f n + total g n + total h n ≡ total s n + total t n
unfolding total
of-totals f g h s t e zero = refl
of-totals f g h s t e (suc n) = let k = of-totals f g h s t e n in let l = e n in omega arith

-- a total of numbers of at most 1
pub total-few : (f : ℕ → ℕ) → ((i : ℕ) → f i ≤ 1) → (n : ℕ) → total f n ≤ n
unfolding total
total-few f h zero = omega arith
total-few f h (suc n) = let k = total-few f h n in let l = h n in omega arith

pub pixel-one : (d : Bool) → bit d ≤ 1
pixel-one true = omega arith
pixel-one false = omega arith

pub outer_one : (a b c d : Bool) → outer a b c d ≤ 1
outer_one a b c true = omega arith
outer_one a b true false = omega arith
outer_one a true false false = omega arith
outer_one true false false false = omega arith
outer_one false false false false = omega arith

pub inner-one : (b c d : Bool) → inner b c d ≤ 1
inner-one b c true = omega arith
inner-one b false false = omega arith
inner-one true true false = omega arith
inner-one false true false = omega arith

-- one corner more
pub total-more : (f : ℕ → ℕ) (n k x : ℕ) → k ≡ total f n → x ≡ f n → k + x ≡ total f (n + 1)
unfolding total
total-more f n k x p q = let e : n + 1 ≡ suc n = omega arith in (λ i. p i + q i) ∙ ap (total f) (sym e)

-- the pixel in front of the next column
pub before_more : (f : ℕ → Bool) (i : ℕ) → f i ≡ before f (i + 1)
before_more f i = let e : suc i ≡ i + 1 = omega arith in ap (before f) e

-- a count of at most a row's columns can grow by one
pub few-more : (k x : ℕ) → k ≤ most_columns → x ≤ 1 → Fits w32 (k + x)
few-more k x h l = record { fits = omega arith }
