-- What the code's tests of a word show of the field that it is.
use Rattle.std.specs.Prelude.{None, Some}
use mathlib.Core.Path.{◌≡◌, refl, ap}
use mathlib.Core.Bool.{and-false}
use Prim.Native.Nat.{ℕ, zero, suc, ◌+◌, ◌^◌, ◌≤◌, ◌<◌}
use native.Mathlib.Omega.{arith}
use borrow.Author.Tests.{ne_eqb}
use lib.Dec.{eqb}
use lib.IntN.{ℤ, pos, negsuc}
use lib.Signed.{mag}
use mir.Syntax.{Width, w32}
use mir.Val.{to_z, of_z, hbits, SFits}
use Rattle.signed.specs.Parts.{up, dn}
use Rattle.signed.proofs.Signed.{to-le-true, to-le-false, is, got, bits_of}
use Rattle.axis.specs.declared.kinds.Direction.TheVariants as Directions
use Rattle.words.specs.Field.{short_of, index_of, link_of, choice_of, direction_of}

-- a number as the machine keeps it
pub kept : (w : Width) (z : ℤ) → mag z < 2 ^ hbits w → to_z w (of_z w z) ≡ z
kept w z h = is (got w z h)

-- ---- 16-bit numbers
pub short-low : (w : ℤ) → up w + 32768 < dn w → pos 0 ≡ short_of w
unfolding short_of
short-low w h = rw (to-le-false (negsuc 32767) w (omega arith))

pub short-high : (w : ℤ) → dn w + 32767 < up w → pos 0 ≡ short_of w
unfolding short_of
short-high w h = rw (to-le-false w (pos 32767) (omega arith), and-false)

pub short-is : (w : ℤ) → dn w ≤ up w + 32768 → up w ≤ dn w + 32767 → w ≡ short_of w
unfolding short_of
short-is w l h = rw (to-le-true (negsuc 32767) w (omega arith), to-le-true w (pos 32767) (omega arith))

-- ---- indices
pub link-none : (w : ℤ) → up w < dn w → None ≡ link_of w
unfolding link_of
link-none (pos n) h = absurd (omega arith)
link-none (negsuc n) h = refl

pub link-to : (w : ℤ) → dn w ≤ up w → Some (index_of w) ≡ link_of w
unfolding link_of
link-to (pos n) h = refl
link-to (negsuc n) h = absurd (omega arith)

-- ---- choices
pub choice-is : (w : ℤ) → SFits w32 w → eqb (of_z w32 w) 1 ≡ choice_of w
unfolding choice_of
choice-is (pos n) f = refl
choice-is (negsuc n) f = ne_eqb (of_z w32 (negsuc n)) 1 (λ e. omega (arith, e, bits_of f))

-- ---- directions
-- a word that the machine has a small number for is that number
pub number_is : (k : ℕ) → k ≤ 4 → (w : ℤ) → SFits w32 w → of_z w32 w ≡ k → w ≡ pos k
number_is k l (pos n) f h = ap pos h
number_is k l (negsuc n) f h = absurd (omega (arith, h, bits_of f))

-- a word that is none of the four is no direction
pub direction-none : (w : ℤ) → (of_z w32 w ≡ 1 → ⊥) → (of_z w32 w ≡ 2 → ⊥) → (of_z w32 w ≡ 3 → ⊥) → (of_z w32 w ≡ 4 → ⊥) → Directions.None ≡ direction_of w
unfolding direction_of
direction-none (pos zero) a b c d = refl
direction-none (pos (suc zero)) a b c d = absurd (a refl)
direction-none (pos (suc (suc zero))) a b c d = absurd (b refl)
direction-none (pos (suc (suc (suc zero)))) a b c d = absurd (c refl)
direction-none (pos (suc (suc (suc (suc zero))))) a b c d = absurd (d refl)
direction-none (pos (suc (suc (suc (suc (suc n)))))) a b c d = refl
direction-none (negsuc n) a b c d = refl
