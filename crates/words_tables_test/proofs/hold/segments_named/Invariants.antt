-- `words_tables_test::hold::segments_named` meets its contract.
use borrow.Author.Rules.{rules}
use borrow.Author.Tests.{not-false}
use native.Mathlib.Omega.{arith}
use mathlib.Core.Path.{◌≡◌, sym}
use mathlib.Core.Bool.{true}
use Prim.Native.Nat.{ℕ, ◌-◌, ◌≤◌}
use Rattle.axis.specs.Refusals.{every, edge_segments}
use Rattle.axis.specs.Edge.{edge_at}
use Rattle.axis.proofs.Tests.{every-none, every_more, every-done}
use Rattle.turn.specs.Indices.{edges_segments}
use Rattle.words.specs.Edge.{edges_in}
use Rattle.words_call.specs.Lent.{edges_of}
use Rattle.words_call.proofs.Holding.{clash}
use Rattle.words_edge.proofs.Wholes.{edges-len}
use Rattle.words_tables_test.specs.Held.{indices_to}
use Rattle.words_tables_test.proofs.Tables.{ends_named}
use Rattle.words_tables_test.proofs.hold.segments_named.Given as goal

abbrev pub invariant-loop-i : goal.invariant-loop-i
invariant-loop-i l = (l.i ≤ edges_in l.edges) × (l.indices ≡ indices_to l.count) × (every (λ (k : ℕ). edge_segments l.count (edge_at (edges_of l.edges) k)) l.i ≡ true)

abbrev pub decreases-loop-i : goal.decreases-loop-i
decreases-loop-i l = l.n - l.i
