-- `words_tables_test::hold::edges_named` meets its contract.
use borrow.Author.Rules.{rules}
use borrow.Author.Tests.{not-false}
use native.Mathlib.Omega.{arith}
use mathlib.Core.Path.{◌≡◌, sym}
use mathlib.Core.Bool.{true}
use Prim.Native.Nat.{ℕ, ◌-◌, ◌≤◌}
use Rattle.axis.specs.Refusals.{every, segment_edge}
use Rattle.axis.specs.Segment.{segment_at}
use Rattle.axis.proofs.Tests.{every-none, every_more, every-done}
use Rattle.turn.specs.Indices.{segments_edges}
use Rattle.words.specs.Segment.{segments_in, flat_segments}
use Rattle.words_call.proofs.Holding.{clash}
use Rattle.words_edge_test.specs.Held.{links_to}
use Rattle.words_segment.proofs.Wholes.{segments-len}
use Rattle.words_tables_test.proofs.Tables.{edge-named}
use Rattle.words_tables_test.proofs.hold.edges_named.Given as goal

abbrev pub invariant-loop-i : goal.invariant-loop-i
invariant-loop-i l = (l.i ≤ segments_in l.segments) × (l.links ≡ links_to l.count) × (every (λ (k : ℕ). segment_edge l.count (segment_at (flat_segments l.segments) k)) l.i ≡ true)

abbrev pub decreases-loop-i : goal.decreases-loop-i
decreases-loop-i l = l.n - l.i
