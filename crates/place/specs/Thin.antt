-- The words of request #102: stems that do not vanish.
use Rattle.std.specs.Prelude.{◌≡◌, true, List, ◌≤◌, ◌<◌, ℤ}
use Rattle.signed.specs.Distance.{distance}
use Rattle.fixed.specs.Width.{one_pixel, standards_hold}

-- two positions are at least a pixel apart, whichever is above
abbrev pub PixelApart : ℤ → ℤ → Type 0
PixelApart p q = one_pixel ≤ distance p q

-- two original positions differ, so that the stem between them has a width
abbrev pub Differ : ℤ → ℤ → Type 0
Differ o1 o2 = 0 < distance o2 o1

-- given: Snap has a list that keeps its rule, and the stem from o1 to o2 has a width
pub record HasWidth (xs : List ℤ) (o1 o2 : ℤ) : Type 0 where
  pub standards : standards_hold xs ≡ true
  pub width : Differ o1 o2
