-- Directions compared (document 01, "Helpers, completed").
use Rattle.std.specs.Prelude.{Bool, false, ℕ, eqb}
use Rattle.axis.specs.declared.kinds.Direction.{Direction}
use Rattle.axis.specs.declared.kinds.Direction.TheVariants as Directions

-- the number of a direction, in the order of its enum
abbrev pub number_of : Direction → ℕ
number_of Directions.None = 0
number_of Directions.Right = 1
number_of Directions.Left = 2
number_of Directions.Up = 3
number_of Directions.Down = 4

-- two directions are the same
unfoldable pub same : Direction → Direction → Bool
same a b = eqb (number_of a) (number_of b)

-- right and left are opposite, up and down are opposite, none is opposite to nothing
unfoldable pub opposite : Direction → Direction → Bool
opposite Directions.None b = false
opposite Directions.Right b = same b Directions.Left
opposite Directions.Left b = same b Directions.Right
opposite Directions.Up b = same b Directions.Down
opposite Directions.Down b = same b Directions.Up
