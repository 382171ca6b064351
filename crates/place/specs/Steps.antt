-- What the steps of fitting promise each other.
use Rattle.std.specs.Prelude.{ℕ, ◌+◌}
use Rattle.signed.specs.Range.{Between}
use Rattle.fixed.specs.Width.{most_away}
use Rattle.axis.specs.declared.edge.Edge.{Edge}
use Rattle.axis.specs.Limits.{most_units}

-- what the original length of a stem can be, the distance of two original positions
abbrev pub most_length : ℕ
most_length = most_units + most_units

-- what a fitted width can be, longer by what a standard can be away
abbrev pub most_width : ℕ
most_width = most_length + most_away

-- what an edge's position can come to while a pass places edges, four times document 01's limit: each of at most 128 visits adds at most 262,188
abbrev pub most_reach : ℕ
most_reach = 67108864

-- an edge at an accepted original position, and within that reach
pub record InReach (e : Edge) : Type 0 where
  pub opos : Between most_units most_units e.opos
  pub pos : Between most_reach most_reach e.pos
