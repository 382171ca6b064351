-- `build_join::join::none_joined` meets its contract.
use borrow.Author.Rules.{rules}
use mathlib.Core.Path.{ap}
use mathlib.Core.Bool.{false}
use lib.ListN.{replicate}
use Rattle.axis.specs.declared.edge.Axis.{Axis}
use Rattle.axis.specs.Limits.{most_segments}
use Rattle.build_join.specs.declared.join.Joined.{Joined}
use Rattle.build_join.proofs.join.none_joined.Goals as goal

-- the tables of these edges, where no segment has joined one
abbrev with : Axis → Joined
with axis = record { full = false; axis = axis; next = replicate most_segments 0 }

pub returns : goal.returns
returns c = ap with c.empty_axis-axis.ensures
