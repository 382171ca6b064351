-- `mend::rebuild::rebuild` meets its contract: each turn leads one segment, from the highest down.
use mathlib.Core.Path.{◌≡◌, refl, sym, ap, ◌∙◌}
use mathlib.Core.Bool.{true, false}
use Prim.Native.Nat.{◌≤◌, ◌<◌, ◌-◌, ◌+◌}
use native.Mathlib.Omega.{arith}
use borrow.Author.Rules.{rules}
use borrow.Author.Tests.{not-true, not-false}
use lib.ListN.{length, length-set}
use Rattle.axis.specs.Limits.{most_edges, most_segments}
use Rattle.mend.proofs.Leads.{LedFrom, led-start, led-beyond, led-sound, led-more, led-all}
use Rattle.mend.proofs.rebuild.rebuild.Given as goal

abbrev pub invariant-loop-i : goal.invariant-loop-i
invariant-loop-i l = (l.i ≤ l.n) × (l.n ≤ most_segments) × LedFrom l.edges l.n l.broken l.initial.seen l.initial.next l.i l.seen l.next

abbrev pub decreases-loop-i : goal.decreases-loop-i
decreases-loop-i l = l.i
