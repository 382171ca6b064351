-- A width of 96 and more is not below 96.
use mathlib.Core.Path.{◌≡◌}
use mathlib.Core.Bool.{true, false}
use lib.IntN.{ℤ, pos}
use lib.Signed.{lt_z, le_z}
use Rattle.signed.proofs.Order.{le-true, le-false}
use Rattle.signed.proofs.Signed.{to-lt-true, to-lt-false}

pub not-thin : (w : ℤ) → le_z (pos 96) w ≡ true → lt_z w (pos 96) ≡ false
not-thin w h = to-lt-false w (pos 96) (le-true (pos 96) w h)

pub thin : (w : ℤ) → le_z (pos 96) w ≡ false → lt_z w (pos 96) ≡ true
thin w h = to-lt-true w (pos 96) (le-false (pos 96) w h)
