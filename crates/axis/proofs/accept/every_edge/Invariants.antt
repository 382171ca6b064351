-- `axis::accept::every_edge` meets its contract.
use mathlib.Core.Path.{◌≡◌, sym, ◌∙◌}
use mathlib.Core.Bool.{true}
use Prim.Native.Nat.{ℕ, ◌≤◌, ◌-◌, min}
use native.Mathlib.Omega.{arith}
use borrow.Author.Rules.{rules}
use borrow.Author.Tests.{not-true, not-false}
use Rattle.axis.specs.Limits.{most_edges}
use Rattle.axis.specs.Edge.{edge_at}
use Rattle.axis.specs.Refusals.{every, edge_passes}
use Rattle.axis.proofs.Tests.{every-none, every_more, every-fails, every-done}
use Rattle.axis.proofs.accept.every_edge.Given as goal

abbrev pub invariant-loop-i : goal.invariant-loop-i
invariant-loop-i l = (l.i ≤ l.n) × (l.n ≡ min l.axis.len most_edges) × (every (λ (k : ℕ). edge_passes l.test (edge_at l.axis k)) l.i ≡ true)

abbrev pub decreases-loop-i : goal.decreases-loop-i
decreases-loop-i l = l.n - l.i
