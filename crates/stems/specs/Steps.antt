-- What the steps of a visit need: ranges, and no zone where there is no fallback.
use Rattle.std.specs.Prelude.{None, Some}
use Rattle.std.specs.Prelude.{◌≡◌, Bool, false, ℕ, ℤ}
use Rattle.signed.specs.Range.{Between}
use Rattle.axis.specs.declared.edge.Edge.{Edge}
use Rattle.stems_latin.specs.Latin.{most_start}
use Rattle.stems.specs.Last.{LastStem}

-- what a plan's positions can be: the reach, and what one visit adds
abbrev pub most_place : ℕ
most_place = most_start

-- the last stem's position, where there is one, is within that
pub record LastWithin (l : LastStem) : Type 0 where
  pub at : (z : ℤ) → l ≡ Some z → Between most_place most_place z

-- without the fallback the link e2 has no zone
pub record BareWithout (fallback : Bool) (e2 : Edge) : Type 0 where
  pub bare : fallback ≡ false → e2.blue ≡ None
