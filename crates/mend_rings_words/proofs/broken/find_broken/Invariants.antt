-- `mend_rings_words::broken::find_broken` meets its contract: each turn follows one ring.
use mathlib.Core.Path.{◌≡◌, refl, sym, ap, ◌∙◌}
use Prim.Native.Nat.{◌≤◌, ◌-◌}
use native.Mathlib.Omega.{arith}
use borrow.Author.Rules.{rules}
use Rattle.axis.specs.Limits.{most_edges, most_segments}
use Rattle.words.specs.Edge.{edges_in}
use Rattle.mend_rings_words.specs.Followed.{FollowedTo}
use Rattle.mend_rings_words.proofs.Follows.{followed-none, followed-more, followed-all}
use Rattle.mend_rings_words.proofs.broken.find_broken.Given as goal

abbrev pub invariant-loop-k : goal.invariant-loop-k
invariant-loop-k l = (l.k ≤ l.m) × (l.m ≡ edges_in l.lent) × (l.m ≤ most_edges) × (l.n ≤ most_segments) × FollowedTo l.lent l.edges l.next l.n l.counts l.k l.broken

abbrev pub decreases-loop-k : goal.decreases-loop-k
decreases-loop-k l = l.m - l.k
