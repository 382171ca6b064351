-- `fit_edges_words::hold::positions_hold` meets its contract.
use borrow.Author.Tests.{not-true, not-false}
use native.Mathlib.Omega.{arith}
use mathlib.Core.Path.{◌≡◌, sym, ◌∙◌}
use mathlib.Core.Bool.{true}
use Prim.Native.Nat.{ℕ, ◌-◌, ◌≤◌}
use Rattle.axis.specs.Edge.{edge_at}
use Rattle.axis.specs.Refusals.{every}
use Rattle.axis.proofs.Tests.{every-none, every_more, every-fails, every-done}
use Rattle.words.specs.Edge.{edges_in}
use Rattle.words_call.specs.Lent.{edges_of}
use Rattle.words_edge.proofs.Wholes.{edges-len}
use Rattle.fit_edges_words.specs.Row.{pos_holds, positions_hold}
use Rattle.fit_edges_words.proofs.hold.positions_hold.Given as goal

abbrev pub invariant-loop-i : goal.invariant-loop-i
invariant-loop-i l = (l.i ≤ edges_in l.words) × (every (λ (k : ℕ). pos_holds (edge_at (edges_of l.words) k)) l.i ≡ true)

abbrev pub decreases-loop-i : goal.decreases-loop-i
decreases-loop-i l = l.n - l.i
