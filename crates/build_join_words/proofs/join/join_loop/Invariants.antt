-- `build_join_words::join::join_loop` meets its contract: the lists are those of the state before each segment.
use native.Mathlib.Omega.{arith}
use mathlib.Core.Path.{◌≡◌, sym, ap, ◌∙◌}
use mathlib.Core.Bool.{false}
use Prim.Native.Nat.{◌-◌, ◌≤◌, ◌<◌}
use Rattle.axis.specs.Limits.{most_segments}
use Rattle.build_join.specs.Joining.{after, state_at}
use Rattle.words.specs.Segment.{segments_in, flat_segments}
use Rattle.build_join_words.specs.Lists.{Placed, Before}
use Rattle.build_join_words.proofs.Readings.{segments-len}
use Rattle.build_join_words.proofs.Listings.{placed-as, placed-if}
use Rattle.build_join_words.proofs.Visits.{visit-left-out}
use Rattle.build_join_words.proofs.Loops.{full-stays}
use borrow.Author.Rules.{rules}
use Rattle.build_join_words.proofs.join.join_loop.Given as goal

abbrev pub invariant-loop-i : goal.invariant-loop-i
invariant-loop-i l = (l.i ≤ l.n) × Placed (flat_segments l.words) l.rules (state_at (flat_segments l.words) l.rules l.second l.i) l.places l.first l.last l.next false l.count

abbrev pub decreases-loop-i : goal.decreases-loop-i
decreases-loop-i l = l.n - l.i
