-- The position of the last CJK stem, or its absence.
use Rattle.std.specs.Prelude.{Option, ℤ}

abbrev pub LastStem : Type 0
LastStem = Option ℤ
