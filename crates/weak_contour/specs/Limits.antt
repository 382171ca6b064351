-- Document 01's limits of an outline ("Numbers that bound the input"), each named here alone.
use Rattle.std.specs.Prelude.{ℕ, ◌+◌}

-- points of an outline: 0 to 4,096
abbrev pub most_points : ℕ
most_points = 4096

-- original and current coordinates of points: -65,535 to 65,535 units
abbrev pub most_coordinate : ℕ
most_coordinate = 65535

-- what a point's current less its original can be: -131,070 to 131,070 units
abbrev pub most_delta : ℕ
most_delta = most_coordinate + most_coordinate

-- what a current can be after the call: -196,605 to 196,605 units
abbrev pub most_result : ℕ
most_result = most_coordinate + most_delta
