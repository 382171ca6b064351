-- `turn_words::pass::turn_edges_in` meets its contract: each turn writes one edge, read from the copy.
use mathlib.Core.Path.{◌≡◌, refl, sym, ap, ◌∙◌}
use Prim.Native.Nat.{ℕ, ◌+◌, ◌-◌, ◌*◌, ◌≤◌, ◌<◌, min}
use native.Mathlib.Omega.{arith}
use borrow.Author.Rules.{rules}
use lib.ListN.{length}
use Rattle.axis.specs.Limits.{most_edges}
use Rattle.turn.specs.Turning.{turned_axis}
use Rattle.words.specs.Word.{written, joined}
use Rattle.words.specs.Edge.{edge_size, table_size, edges_in, edge_words_at, edges_over}
use Rattle.words.proofs.Edges.{edge-length, edge-lengths}
use Rattle.words.proofs.Tables.{Joined, joined-none, joined-more, joined-all}
use Rattle.words.proofs.Writing.{written-length}
use Rattle.words_call.specs.Lent.{edges_of}
use Rattle.turn_words.proofs.Turns.{edge-holds, edge-turned}
use Rattle.turn_words.proofs.pass.turn_edges_in.Given as goal

abbrev pub invariant-loop-i : goal.invariant-loop-i
invariant-loop-i l = Joined (edge_words_at (turned_axis (edges_of l.initial.edges))) l.initial.edges l.edges 0 l.count l.i

abbrev pub decreases-loop-i : goal.decreases-loop-i
decreases-loop-i l = l.count - l.i
