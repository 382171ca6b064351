-- Values worked out by hand: halves go away from zero, whatever the three signs are; and the largest that remaining edges ask for.
use mathlib.Core.Path.{◌≡◌, refl}
use mathlib.Core.List.{[], ◌∷◌, map}
use lib.IntN.{ℤ, pos}
use Rattle.signed.specs.Table.{minus}
use Rattle.fixed.specs.Point.{rounded, rounded_z}
use Rattle.fixed_ratio.specs.Ratio.{mul_div}

-- a·b / c
record Row : Type 0 where
  a : ℤ
  b : ℤ
  c : ℤ

abbrev row : ℤ → ℤ → ℤ → Row
row a b c = record { a = a; b = b; c = c }

abbrev ratio_of : Row → ℤ
ratio_of r = mul_div r.a r.b r.c

nearest :
    map ratio_of (row (pos 51) (pos 128) (pos 100) ∷ row (pos 31) (pos 128) (pos 100) ∷ row (pos 10) (pos 40) (pos 40) ∷ [])
    ≡ pos 65 ∷ pos 40 ∷ pos 10 ∷ []
unfolding mul_div rounded_z rounded
nearest = refl

halves-away :
    map ratio_of
    (row (pos 1) (pos 1) (pos 2) ∷ row (pos 1) (minus 1) (pos 2) ∷ row (minus 1) (minus 1) (pos 2) ∷ row (pos 1) (pos 1) (minus 2)
    ∷ row (minus 1) (minus 3) (minus 2) ∷ row (pos 0) (minus 3) (minus 2)
    ∷ [])
    ≡ pos 1 ∷ minus 1 ∷ pos 1 ∷ minus 1 ∷ minus 2 ∷ pos 0 ∷ []
unfolding mul_div rounded_z rounded
halves-away = refl

largest : mul_div (pos 131070) (minus 33554432) (pos 1) ≡ minus 4397979402240
unfolding mul_div rounded_z rounded
largest = refl
