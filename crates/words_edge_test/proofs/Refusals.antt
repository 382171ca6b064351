-- The tests of edges on their words are those of the table that they are read as.
use mathlib.Core.Path.{◌≡◌, sym, ap, ◌∙◌}
use mathlib.Core.Bool.{Bool}
use mathlib.Core.List.{List}
use Prim.Native.Nat.{ℕ, ◌+◌, ◌*◌, ◌<◌, min}
use native.Mathlib.Omega.{arith}
use lib.IntN.{ℤ}
use Rattle.axis.specs.declared.accept.EdgeTest.{EdgeTest}
use Rattle.axis.specs.declared.edge.Edge.{Edge}
use Rattle.axis.specs.Edge.{empty_edge, edge_at}
use Rattle.axis.specs.Limits.{most_edges}
use Rattle.axis.specs.Refusals.{edge_passes}
use Rattle.words.specs.Word.{table}
use Rattle.words.specs.Edge.{edge_size, edge_from, edge_in_run, axis_run, flat_axis, edges_in}
use Rattle.words.proofs.Places.{firsts_at}
use Rattle.words_call.specs.Lent.{edges_of}

-- in each place that the table holds, however many words there are
pub edge-held : (ws : List ℤ) (i : ℕ) → i < min (edges_in ws) most_edges → edge_at (edges_of ws) i ≡ edge_from ws (edge_size * i)
unfolding flat_axis axis_run table
edge-held ws i h =
    let q : 0 + edge_size * i ≡ edge_size * i = omega arith in firsts_at (edge_in_run ws 0) (min (edges_in ws) most_edges) i _ empty_edge h ∙ ap (edge_from ws) q

-- a test of it is that of the edge that is read there
pub edge-tested : (test : EdgeTest) (ws : List ℤ) (i : ℕ) (e : Edge) (r v : Bool) → i < min (edges_in ws) most_edges → e ≡ edge_from ws (edge_size * i)
    → r ≡ edge_passes test e → r ≡ v → edge_passes test (edge_at (edges_of ws) i) ≡ v
edge-tested test ws i e r v h p q g = ap (edge_passes test) (edge-held ws i h ∙ sym p) ∙ sym q ∙ g
