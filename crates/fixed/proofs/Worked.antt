-- Values of the definitions, worked out by hand from document 01 at negatives, halves and limits: one table, one statement.
use mathlib.Core.Path.{◌≡◌, refl}
use mathlib.Core.List.{List, [], ◌∷◌, map}
use lib.IntN.{pos}
use Rattle.signed.specs.Table.{Row, ◌is◌, minus}
use Rattle.fixed.specs.Point.{rounded, rounded_z, mul_fix, div_fix, derived}
use Rattle.fixed.specs.Pixel.{pix_floor, pix_round}
use Rattle.fixed.specs.Width.{no_better, is_nearest, standard_that, nearest, with_sign, settled, snapped, lifted, fitted_width}
use Rattle.fixed.specs.declared.width.WidthRule.TheVariants.{Keep, Snap}

unfoldable pub rows : List Row
rows =
    (mul_fix (pos 1) (pos 32768) is pos 1) ∷
    (mul_fix (minus 1) (pos 32768) is minus 1) ∷
    (mul_fix (pos 1) (pos 32767) is pos 0) ∷
    (mul_fix (minus 1) (pos 32769) is minus 1) ∷
    (mul_fix (minus 3) (pos 32768) is minus 2) ∷
    (mul_fix (pos 16383) (pos 16777216) is pos 4194048) ∷
    (mul_fix (minus 2147483648) (pos 65536) is minus 2147483648) ∷
    (div_fix (pos 1) (pos 2) is pos 32768) ∷
    (div_fix (pos 64) (pos 3) is pos 1398101) ∷
    (div_fix (minus 64) (pos 3) is minus 1398101) ∷
    (div_fix (pos 1) (pos 131072) is pos 1) ∷
    (div_fix (minus 1) (pos 131072) is minus 1) ∷
    (div_fix (pos 1) (minus 131072) is minus 1) ∷
    (div_fix (minus 1) (minus 131072) is pos 1) ∷
    (div_fix (pos 1) (pos 131073) is pos 0) ∷
    (div_fix (pos 32767) (pos 1) is pos 2147418112) ∷
    (derived (pos 1000) (pos 8) is pos 3) ∷
    (derived (pos 16384) (pos 6000) is pos 48000) ∷
    (derived (pos 16) (pos 8) is pos 0) ∷
    (pix_floor (pos 63) is pos 0) ∷
    (pix_floor (pos 64) is pos 64) ∷
    (pix_floor (minus 1) is minus 64) ∷
    (pix_floor (minus 64) is minus 64) ∷
    (pix_floor (minus 2147483648) is minus 2147483648) ∷
    (pix_round (pos 31) is pos 0) ∷
    (pix_round (pos 32) is pos 64) ∷
    (pix_round (minus 32) is pos 0) ∷
    (pix_round (minus 33) is minus 64) ∷
    (fitted_width Keep [] (minus 70) is minus 70) ∷
    (fitted_width Snap [] (pos 70) is pos 70) ∷
    (snapped (pos 40 ∷ pos 60 ∷ []) (pos 50) is pos 40) ∷
    (snapped (pos 40 ∷ pos 60 ∷ []) (minus 50) is minus 40) ∷
    (snapped (pos 40 ∷ pos 60 ∷ []) (pos 51) is pos 60) ∷
    (snapped (pos 40 ∷ pos 60 ∷ []) (pos 24) is pos 40) ∷
    (snapped (pos 40 ∷ pos 60 ∷ []) (pos 23) is pos 23) ∷
    (fitted_width Snap (pos 80 ∷ pos 100 ∷ []) (pos 90) is pos 80) ∷
    (fitted_width Snap (pos 80 ∷ pos 100 ∷ []) (minus 116) is minus 100) ∷
    (fitted_width Snap (pos 80 ∷ pos 100 ∷ []) (pos 117) is pos 117) ∷
    (fitted_width Snap (pos 75 ∷ []) (pos 50) is pos 64) ∷
    (fitted_width Snap (pos 40 ∷ []) (pos 40) is pos 64) ∷
    (fitted_width Snap (pos 50 ∷ []) (pos 65) is pos 64) ∷
    (fitted_width Snap [] (minus 10) is minus 64) ∷
    (fitted_width Snap [] (pos 1) is pos 64) ∷
    (fitted_width Keep (pos 75 ∷ []) (pos 50) is pos 50) ∷
    (fitted_width Snap (pos 1 ∷ []) (pos 0) is pos 0) ∷
    (fitted_width Snap (pos 16383 ∷ []) (minus 16399) is minus 16383) ∷
    []

-- each row holds
pub worked : map (λ (r : Row). r.gives) rows ≡ map (λ (r : Row). r.value) rows
unfolding rounded rounded_z mul_fix div_fix derived pix_floor pix_round no_better is_nearest standard_that nearest with_sign settled snapped lifted fitted_width rows
worked = refl
