-- `edge_points_words::pass::move_all` meets its contract.
use native.Mathlib.Omega.{arith}
use mathlib.Core.Path.{sym, subst, ◌∙◌}
use Prim.Native.Nat.{ℕ, ◌-◌}
use Rattle.edge_points.specs.Steps.{points}
use Rattle.edge_points_words.specs.Steps.{Accepted}
use Rattle.edge_points_words.proofs.Passing.{Passing, passing-starts, passing-next, passing-ends}
use Rattle.edge_points_words.proofs.pass.move_all.Given as goal

abbrev pub invariant-loop-i : goal.invariant-loop-i
invariant-loop-i l = Passing l.segments l.edges l.snap l.alone l.ends (points l.initial.currents l.initial.touched) (points l.currents l.touched) l.i

abbrev pub decreases-loop-i : goal.decreases-loop-i
decreases-loop-i l = l.n - l.i
