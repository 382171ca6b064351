-- The steps of the m rule, as what they make of an axis.
use Rattle.std.specs.Prelude.{ℕ, ℤ}
use Rattle.axis.specs.declared.kinds.Group.{Group}
use Rattle.axis.specs.declared.edge.Axis.{Axis}
use Rattle.lowercase_m.specs.M.{stems_of, move_done, move_only, move_serifs, move_stem, aligned}

-- one edge moved, for good or not
abbrev pub moving_done : ℕ → ℤ → Axis → Axis
moving_done i d axis = move_done axis i d

abbrev pub moving_only : ℕ → ℤ → Axis → Axis
moving_only i d axis = move_only axis i d

-- the serifs of twelve edges, and all that moves with the third stem
abbrev pub moving_serifs : ℤ → Axis → Axis
moving_serifs d axis = move_serifs axis d

abbrev pub moving_stem : ℕ → ℤ → Axis → Axis
moving_stem i d axis = move_stem axis i d

-- the rule
abbrev pub aligning : Group → Axis → Axis
aligning group axis = aligned group axis (stems_of axis.len)
