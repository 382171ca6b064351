-- Wrapping around at a width, in terms of the bits: what the code computes.
use Rattle.std.proofs.Common.{◌≡◌, ℕ, ◌+◌, ◌-◌, ◌*◌, ◌/◌, ◌%◌, ◌<◌, ℤ, pos, negsuc, ◌+ℤ◌, ◌-ℤ◌, sym, ap, ◌∙◌, mod-lt, mod-eq_of_lt, arith, w16, w32, SFits, to_z, of_z}
use native.Mathlib.Nat.{div-add-mod, add-mul-mod_self_left}
use Rattle.signed.specs.Parts.{up, dn}
use Rattle.signed.proofs.Signed.{add-law, sub-law, bits_of, neg}
use Rattle.middle.specs.Middle.{residue, wrap_z}

-- the residue is below m and differs from z by a multiple of m
record Residue (z : ℤ) (m : ℕ) : Type 0 where
  more : ℕ
  less : ℕ
  below : residue z m < m
  apart : residue z m + dn z + m * more ≡ up z + m * less

residue-is : (z : ℤ) (m : ℕ) → 0 < m → Residue z m
unfolding residue
residue-is (pos n) m h = record { more = n / m; less = 0; below = mod-lt n h; apart = omega (arith, div-add-mod n m) }
residue-is (negsuc n) m h =
    let l = mod-lt n h in
    record { more = 0; less = n / m + 1; below = omega arith; apart = omega (arith, div-add-mod n m) }

-- a number below m is known by what it is up to multiples of m
only : (m r x p q : ℕ) → r < m → r + m * p ≡ x + m * q → r ≡ x % m
only m r x p q l e = sym (mod-eq_of_lt l) ∙ sym (add-mul-mod_self_left r m p) ∙ ap (λ (n : ℕ). n % m) e ∙ add-mul-mod_self_left x m q

-- the sum of the bits, wrapped around, stands for the sum wrapped around
pub wrap-sum : (a b : ℤ) → SFits w32 a → SFits w32 b → wrap_z w32 (a +ℤ b) ≡ to_z w32 ((of_z w32 a + of_z w32 b) % 4294967296)
unfolding wrap_z
wrap-sum a b h k =
    let r = residue-is (a +ℤ b) 4294967296 (omega arith) in
    let e = (bits_of h).bit in
    let f = (bits_of k).bit in
    rw (only 4294967296 (residue (a +ℤ b) 4294967296) (of_z w32 a + of_z w32 b) (r.more + neg a + neg b) r.less r.below
    (omega (arith, r.apart, add-law a b)))

-- s, which the bits of b make up to those of a, stands for the difference wrapped around
pub wrap-difference : (a b : ℤ) (s : ℕ) → SFits w32 a → SFits w32 b → s < 4294967296 → (s + of_z w32 b) % 4294967296 ≡ of_z w32 a → wrap_z w32 (a -ℤ b) ≡ to_z w32 s
unfolding wrap_z
wrap-difference a b s h k l q =
    let r = residue-is (a -ℤ b) 4294967296 (omega arith) in
    let e = (bits_of h).bit in
    let f = (bits_of k).bit in
    let i : residue (a -ℤ b) 4294967296 ≡ s = omega (arith, r.below, r.apart, sub-law a b) in
    rw i

-- the low 16 bits of a 32-bit number stand for it wrapped around
pub wrap-low : (z : ℤ) → SFits w32 z → wrap_z w16 z ≡ to_z w16 (of_z w32 z % 65536)
unfolding wrap_z
wrap-low z h =
    let r = residue-is z 65536 (omega arith) in
    let e = (bits_of h).bit in
    rw (only 65536 (residue z 65536) (of_z w32 z) (r.more + 65536 * neg z) r.less r.below (omega (arith, r.apart)))
