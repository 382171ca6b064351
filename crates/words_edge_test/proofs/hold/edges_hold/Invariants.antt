-- `words_edge_test::hold::edges_hold` meets its contract.
use borrow.Author.Tests.{not-false}
use mathlib.Core.Path.{◌≡◌, refl, subst}
use Prim.Native.Nat.{◌-◌}
use native.Mathlib.Omega.{arith}
use Rattle.words.specs.Record.{edge_layout}
use Rattle.words_edge_test.specs.Held.{links_to, BackHeld}
use Rattle.words_call.proofs.Tested.{Passed, passed_none, passed-more}
use Rattle.words_call.proofs.Holding.{clash}
use Rattle.words_edge_test.proofs.Holding.{EdgeHeld, passed-all}
use Rattle.words_edge_test.proofs.hold.edges_hold.Given as goal

abbrev pub invariant-loop-i : goal.invariant-loop-i
invariant-loop-i l = (l.links ≡ links_to l.n) × Passed edge_layout (EdgeHeld l.words l.n) l.words l.n l.i

abbrev pub decreases-loop-i : goal.decreases-loop-i
decreases-loop-i l = l.n - l.i
