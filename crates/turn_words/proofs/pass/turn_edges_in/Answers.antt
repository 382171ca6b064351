-- `turn_words::pass::turn_edges_in` meets its contract: each turn writes one edge, read from the copy.
use mathlib.Core.Path.{◌≡◌, refl, sym, ap, ◌∙◌}
use Prim.Native.Nat.{ℕ, ◌+◌, ◌-◌, ◌*◌, ◌≤◌, ◌<◌, min}
use native.Mathlib.Omega.{arith}
use borrow.Author.Rules.{rules}
use lib.ListN.{length}
use Rattle.axis.specs.Limits.{most_edges}
use Rattle.turn.specs.Turning.{turned_axis}
use Rattle.words.specs.Word.{written, joined}
use Rattle.words.specs.Edge.{edge_size, table_size, edges_in, edge_words_at, edges_over}
use Rattle.words.proofs.Edges.{edge-length, edge-lengths}
use Rattle.words.proofs.Tables.{Joined, joined-none, joined-more, joined-all}
use Rattle.words.proofs.Writing.{written-length}
use Rattle.words_call.specs.Lent.{edges_of}
use Rattle.turn_words.proofs.Turns.{edge-holds, edge-turned}
use Rattle.turn_words.proofs.pass.turn_edges_in.Goals as goal

pub slice_bounds-write_words-end : goal.slice_bounds-write_words-end
slice_bounds-write_words-end c = refl

pub write_words-requires : goal.write_words-requires
write_words-requires c =
    let room : 0 + length c.args.edges.now ≤ table_size = omega (arith, c.requires.0.long, c.requires.0.few) in
    room

pub loop-i-init : goal.loop-i-init
loop-i-init c = joined-none _ _ _ _

pub slice_bounds-edge_from-end : goal.slice_bounds-edge_from-end
slice_bounds-edge_from-end c =
    let room : 0 + length c.args.edges.now ≤ table_size = omega (arith, c.requires.0.long, c.requires.0.few) in
    let copy-long : table_size ≡ length c.write_words.new.out = sym (ap length c.write_words.ensures ∙ written-length _ _ 0 room) in
    copy-long

pub overflow_sub-count : goal.overflow_sub-count
overflow_sub-count c = omega arith

pub overflow_sub-count-in-loop-i : goal.overflow_sub-count-in-loop-i
overflow_sub-count-in-loop-i c = omega arith

pub overflow_mul-count : goal.overflow_mul-count
overflow_mul-count c = omega (arith, c.requires.0.few)

pub edge_from-edge-requires : goal.edge_from-edge-requires
edge_from-edge-requires c = omega (arith, c.requires.0.few)

pub turned_edge-requires : goal.turned_edge-requires
turned_edge-requires c = (
  c.requires.0.few,
  edge-holds c.args.edges.now _ _ c.requires.0 c.write_words.ensures c.loop-i.i (omega arith) _ c.edge_from-edge.ensures
      c.requires.1,
)

pub overflow_mul-i : goal.overflow_mul-i
overflow_mul-i c =
    let below : c.loop-i.i < most_edges = omega (arith, c.requires.0.few) in
    omega (arith, below)

pub slice_bounds-write_words-end-in-loop-i : goal.slice_bounds-write_words-end-in-loop-i
slice_bounds-write_words-end-in-loop-i c = sym (ap length c.edge_words-words.ensures ∙ edge-length _)

pub write_words-requires-in-loop-i : goal.write_words-requires-in-loop-i
write_words-requires-in-loop-i c = omega (arith, c.loop-i.invariant.kept, ap length c.edge_words-words.ensures ∙ edge-length _)

pub overflow_step-i : goal.overflow_step-i
overflow_step-i c = omega arith

pub loop-i-smaller : goal.loop-i-smaller
loop-i-smaller c = omega arith

pub loop-i-preserved : goal.loop-i-preserved
loop-i-preserved c = let es = c.args.edges.now in
    let i = c.loop-i.i in
    let at : edge_size * i ≡ 0 + edge_size * i = omega arith in
    joined-more (edge_words_at (turned_axis (edges_of es))) edge_size (edge-lengths (turned_axis (edges_of es))) c.edge_words-words.result c.loop-i.invariant (omega arith)
    (omega arith)
    (edge-turned es _ _ c.requires.0 c.write_words.ensures i (omega arith) _ c.edge_from-edge.ensures _ _ c.turned_edge.ensures c.edge_words-words.ensures)
    (c.write_words-in-loop-i.ensures ∙ ap (λ (k : ℕ). written c.loop-i.edges k c.edge_words-words.result) at)

pub shape_of-edges : goal.shape_of-edges
shape_of-edges c = c.loop-i.invariant.kept

pub returns : goal.returns
unfolding edges_over
returns c = let es = c.args.edges.now in
    let n : edges_in es ≡ min (edges_in es) most_edges = omega (arith, c.requires.0.few) in
    joined-all c.loop-i.invariant (omega arith) ∙ ap (λ (k : ℕ). written es 0 (joined (edge_words_at (turned_axis (edges_of es))) k)) n
