-- Where a line crosses a row: never below it or above it, nor left of both its ends; and right of both, where it goes over the row's height. Assumes nothing.
use mathlib.Core.Path.{◌≡◌, refl, ap}
use mathlib.Core.Logic.{⊎_elim}
use mathlib.Core.Bool.{Bool, true, false, ◌&&◌}
use Prim.Native.Nat.{ℕ, ◌+◌, ◌-◌, ◌*◌, ◌≤◌, ◌<◌}
use native.Mathlib.Nat.{mul-le-mul_right}
use native.Mathlib.Omega.{arith}
use borrow.Author.Tests.{lt-ltb, le-ltb, le-leb, lt-leb}
use lib.Dec.{ltb, leb}
use Rattle.signed.proofs.Signed.{lt-or-le}
use Rattle.shown_rows.specs.Turns.{bit}
use Rattle.shown_rows.specs.Chains.{upward}
use Rattle.shown.specs.Shown.{Place, crosses}

module _ (l h : Place) (x y : ℕ) where
  pub crosses-below : y < l.y → crosses l h x y ≡ false
  crosses-below b = rw (lt-leb l.y y b)

  -- a line that ends at a height or below it does not cross it
  pub crosses-above : h.y ≤ y → crosses l h x y ≡ false
  crosses-above b = by (leb l.y y)
    where
      by : (t : Bool) → (t && (ltb y h.y && leb (l.x * (h.y - y) + h.x * (y - l.y)) (x * (h.y - l.y)))) ≡ false
      by true = rw (le-ltb y h.y b)
      by false = refl

  -- nor does one cross it at or left of x whose ends are both right of x
  pub crosses-right : x < l.x → x < h.x → crosses l h x y ≡ false
  crosses-right p q =
      ⊎_elim (λ b. crosses-below b)
      (λ b. ⊎_elim
      (λ c. let e : h.y - l.y ≡ (h.y - y) + (y - l.y) = omega arith in
      let f : x * (h.y - l.y) < l.x * (h.y - y) + h.x * (y - l.y) =
      omega (arith, mul-le-mul_right (h.y - y) p, mul-le-mul_right (y - l.y) q, ap (λ (z : ℕ). x * z) e) in
      rw (le-leb l.y y b, lt-ltb y h.y c, lt-leb _ _ f))
      (λ c. crosses-above c)
      (lt-or-le y h.y))
      (lt-or-le y l.y)

  -- it crosses at most once, where it rises over it
  pub crosses-most : bit (crosses l h x y) ≤ upward (ltb y l.y) (ltb y h.y)
  crosses-most =
      ⊎_elim (λ b. rw (lt-leb l.y y b, lt-ltb y l.y b) (omega arith))
      (λ b. rw (le-leb l.y y b, le-ltb y l.y b) (by (ltb y h.y) (leb (l.x * (h.y - y) + h.x * (y - l.y)) (x * (h.y - l.y)))))
      (lt-or-le y l.y)
    where
      by : (t s : Bool) → bit (t && s) ≤ bit t
      by true true = omega arith
      by true false = omega arith
      by false s = omega arith

  -- and it crosses left of what both its ends are left of
  module _ (p : l.x ≤ x) (q : h.x ≤ x) where
    left-of : l.y ≤ y → y < h.y → l.x * (h.y - y) + h.x * (y - l.y) ≤ x * (h.y - l.y)
    left-of a b =
        let e : h.y - l.y ≡ (h.y - y) + (y - l.y) = omega arith in
        omega (arith, mul-le-mul_right (h.y - y) p, mul-le-mul_right (y - l.y) q, ap (λ (z : ℕ). x * z) e)

    pub crosses-all : bit (crosses l h x y) ≡ upward (ltb y l.y) (ltb y h.y)
    crosses-all =
        ⊎_elim (λ b. rw (lt-leb l.y y b, lt-ltb y l.y b))
        (λ b. rw (le-leb l.y y b, le-ltb y l.y b)
        (⊎_elim (λ c. rw (lt-ltb y h.y c, le-leb _ _ (left-of b c))) (λ c. rw (le-ltb y h.y c)) (lt-or-le y h.y)))
        (lt-or-le y l.y)
