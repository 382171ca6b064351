-- `build_words::edges::write_edges` meets its contract: each turn writes one edge.
use mathlib.Core.Path.{◌≡◌, sym, ap, ◌∙◌}
use mathlib.Core.List.{List}
use Prim.Native.Nat.{ℕ, ◌+◌, ◌-◌, ◌*◌}
use native.Mathlib.Omega.{arith}
use borrow.Author.Rules.{rules}
use lib.IntN.{ℤ}
use lib.ListN.{length}
use mir.Syntax.{w32}
use mir.Val.{to_z}
use Rattle.signed.proofs.Signed.{is}
use Rattle.words.specs.Word.{written, joined}
use Rattle.words.specs.Edge.{edge_size, edges_in, edge_words}
use Rattle.words.proofs.Edges.{edge-length}
use Rattle.words.proofs.Tables.{Joined, joined-none, joined-more, joined-all}
use Rattle.build_words.specs.Edges.{listed_words}
use Rattle.build_words.proofs.edges.write_edges.Given as goal

abbrev pub invariant-loop-k : goal.invariant-loop-k
invariant-loop-k l = Joined (listed_words l.words l.scale l.first l.last) l.initial.room l.room 0 l.count l.k

abbrev pub decreases-loop-k : goal.decreases-loop-k
decreases-loop-k l = l.count - l.k
