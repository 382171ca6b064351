-- Widths of gaps: differences of positions within document 01's limits.
use mathlib.Core.Path.{◌≡◌}
use native.Mathlib.Omega.{arith}
use lib.IntN.{ℤ, ◌-ℤ◌}
use mir.Syntax.{w32}
use mir.Val.{SFits, to_z, of_z}
use Rattle.signed.specs.Range.{Between}
use Rattle.signed.proofs.Signed.{fits, fits-in, is, signed}
use Rattle.axis.specs.Limits.{most_units, most_pos}

-- an original position is within the limits of a fitted one
pub wider : {z : ℤ} → Between most_units most_units z → Between most_pos most_pos z
wider h = omega (arith, h)

module _ {x y : ℤ} (p : Between most_pos most_pos x) (q : Between most_pos most_pos y) where
  -- the difference of two positions by their bits fits
  apart : SFits w32 (x -ℤ y)
  apart = fits (omega (arith, signed))

  pub width_fits : SFits w32 (to_z w32 (of_z w32 x) -ℤ to_z w32 (of_z w32 y))
  width_fits = rw (is (fits-in w32 p tt tt), is (fits-in w32 q tt tt)) apart

  -- and is read back
  pub width_is : to_z w32 (of_z w32 (to_z w32 (of_z w32 x) -ℤ to_z w32 (of_z w32 y))) ≡ x -ℤ y
  width_is = rw (is (fits-in w32 p tt tt), is (fits-in w32 q tt tt)) (is apart)
