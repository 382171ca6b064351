-- Numbers: order goes on, and what grows with an original position: the place by the anchor, and one shifted with another.
use mathlib.Core.Path.{◌≡◌, refl, sym, ap, subst}
use Prim.Native.Nat.{ℕ, zero, suc, ◌+◌, ◌-◌, ◌<◌}
use native.Mathlib.Omega.{arith}
use lib.IntN.{ℤ, pos, ◌+ℤ◌, ◌-ℤ◌, ◌*ℤ◌}
use lib.Signed.{◌≤ℤ◌, ≤ℤ_refl, shr_z}
use Rattle.signed.proofs.Signed.{signed, add-law, sub-law, mul-up, mul-dn, shr-law, to-≤ℤ}
use Rattle.place.specs.Placing.{serif_pos}
use Rattle.remaining.specs.Plan.{half_floor, spaced_pos}

-- ---- order
pub le_then : (x y z : ℤ) → x ≤ℤ y → y ≤ℤ z → x ≤ℤ z
le_then x y z h k = to-≤ℤ x z (omega (arith, signed))

-- of the same two by other names
pub le-by : {x y u v : ℤ} → x ≡ u → y ≡ v → u ≤ℤ v → x ≤ℤ y
le-by {x} {y} {u} {v} p q h = subst (λ (z : ℤ). z ≤ℤ y) (sym p) (subst (λ (z : ℤ). u ≤ℤ z) (sym q) h)

-- ---- places
half-rises : (x y : ℤ) → x ≤ℤ y → half_floor x ≤ℤ half_floor y
unfolding half_floor
half-rises x y h =
    let q = shr_z x 32 in
    let r = shr_z y 32 in
    to-≤ℤ (q *ℤ pos 32) (r *ℤ pos 32) (omega (arith, signed, shr-law x 32 tt, shr-law y 32 tt, mul-up q 32, mul-dn q 32, mul-up r 32, mul-dn r 32))

-- by the anchor
pub spaced-rises : (p o x y : ℤ) → x ≤ℤ y → spaced_pos p o x ≤ℤ spaced_pos p o y
unfolding spaced_pos
spaced-rises p o x y h =
    let a = x -ℤ o +ℤ pos 16 in
    let b = y -ℤ o +ℤ pos 16 in
    let more : a ≤ℤ b = to-≤ℤ a b (omega (arith, signed, add-law (x -ℤ o) (pos 16), add-law (y -ℤ o) (pos 16), sub-law x o, sub-law y o)) in
    let halves = half-rises a b more in
    to-≤ℤ (p +ℤ half_floor a) (p +ℤ half_floor b) (omega (arith, signed, halves, add-law p (half_floor a), add-law p (half_floor b)))

-- it is not above the anchor where it was not above it, and not below where not below
pub spaced-below : (p o x : ℤ) → x ≤ℤ o → spaced_pos p o x ≤ℤ p
unfolding spaced_pos half_floor
spaced-below p o x h =
    let z = x -ℤ o +ℤ pos 16 in
    let q = shr_z z 32 in
    to-≤ℤ (p +ℤ q *ℤ pos 32) p (omega (
      arith,
      signed,
      add-law p (q *ℤ pos 32),
      mul-up q 32,
      mul-dn q 32,
      shr-law z 32 tt,
      add-law (x -ℤ o) (pos 16),
      sub-law x
          o,
    ))

pub spaced-above : (p o x : ℤ) → o ≤ℤ x → p ≤ℤ spaced_pos p o x
unfolding spaced_pos half_floor
spaced-above p o x h =
    let z = x -ℤ o +ℤ pos 16 in
    let q = shr_z z 32 in
    to-≤ℤ p (p +ℤ q *ℤ pos 32) (omega (
      arith,
      signed,
      add-law p (q *ℤ pos 32),
      mul-up q 32,
      mul-dn q 32,
      shr-law z 32 tt,
      add-law (x -ℤ o) (pos 16),
      sub-law x
          o,
    ))

-- shifted with an edge that was at o and is at p
pub shifted-rises : (p o x y : ℤ) → x ≤ℤ y → serif_pos p o x ≤ℤ serif_pos p o y
unfolding serif_pos
shifted-rises p o x y h = to-≤ℤ (p +ℤ (x -ℤ o)) (p +ℤ (y -ℤ o)) (omega (arith, signed, add-law p (x -ℤ o), add-law p (y -ℤ o), sub-law x o, sub-law y o))

-- it stays above that edge where it was above it, and below where below
pub shifted-above : (p o x : ℤ) → o ≤ℤ x → p ≤ℤ serif_pos p o x
unfolding serif_pos
shifted-above p o x h = to-≤ℤ p (p +ℤ (x -ℤ o)) (omega (arith, signed, add-law p (x -ℤ o), sub-law x o))

pub shifted-below : (p o x : ℤ) → x ≤ℤ o → serif_pos p o x ≤ℤ p
unfolding serif_pos
shifted-below p o x h = to-≤ℤ (p +ℤ (x -ℤ o)) p (omega (arith, signed, add-law p (x -ℤ o), sub-law x o))

-- ---- from neighbour to neighbour
rise-on : (f : ℕ → ℤ) (n : ℕ) → ((i : ℕ) → i + 1 < n → f i ≤ℤ f (i + 1)) → (d i : ℕ) → i + d < n → f i ≤ℤ f (i + d)
rise-on f n h zero i l = le-by refl (ap f (omega arith)) (≤ℤ_refl (f i))
rise-on f n h (suc d) i l = le_then _ _ _ (rise-on f n h d i (omega arith)) (le-by refl (ap f (omega arith)) (h (i + d) (omega arith)))

pub rises : (f : ℕ → ℤ) (n : ℕ) → ((i : ℕ) → i + 1 < n → f i ≤ℤ f (i + 1)) → (i j : ℕ) → i < j → j < n → f i ≤ℤ f j
rises f n h i j l b = le-by refl (ap f (omega arith)) (rise-on f n h (j - i) i (omega arith))
