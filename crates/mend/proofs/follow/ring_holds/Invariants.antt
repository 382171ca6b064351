-- `mend::follow::ring_holds` meets its contract: what is left of the ring gives the whole.
use mathlib.Core.Path.{◌≡◌, refl, sym, ap, ◌∙◌}
use mathlib.Core.Bool.{true, false}
use Prim.Native.Nat.{◌≤◌, ◌<◌}
use native.Mathlib.Omega.{arith}
use borrow.Author.Rules.{rules}
use borrow.Author.Tests.{eq-eqb, ne_eqb}
use Rattle.axis.specs.Limits.{most_segments}
use Rattle.mend.specs.Following.{closes, own_in, next_in}
use Rattle.mend.proofs.Steps.{step-out, step_other, step-early, step-last, step-on, from_place, at-end}
use Rattle.mend.proofs.follow.ring_holds.Given as goal

abbrev pub invariant-loop-left : goal.invariant-loop-left
invariant-loop-left l = (l.n ≤ most_segments) × (closes (own_in l.edges l.edge) (next_in l.next) l.n l.first l.last l.left l.ix ≡ closes (own_in l.edges l.edge) (next_in l.next) l.n l.first l.last l.initial.left l.initial.ix)

abbrev pub decreases-loop-left : goal.decreases-loop-left
decreases-loop-left l = l.left
