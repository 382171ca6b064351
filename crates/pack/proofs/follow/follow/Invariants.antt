-- `pack::follow::follow` meets its contract: each number on the list is followed once.
use native.Mathlib.Omega.{arith}
use mathlib.Core.Path.{refl}
use Prim.Native.Nat.{◌-◌, ◌<◌}
use Rattle.axis.specs.Limits.{most_segments}
use Rattle.pack.specs.Sets.{number_at}
use Rattle.pack.proofs.Lists.{in-places}
use Rattle.pack.proofs.Follows.{Following, listed-few, follow-starts, follow-next, follow-ends}
use Rattle.pack.proofs.follow.follow.Given as goal

abbrev pub invariant-loop-at : goal.invariant-loop-at
invariant-loop-at l = Following (number_at l.links) (number_at l.serifs) l.initial.kept l.kept l.order l.len l.at

abbrev pub decreases-loop-at : goal.decreases-loop-at
decreases-loop-at l = most_segments - l.at
