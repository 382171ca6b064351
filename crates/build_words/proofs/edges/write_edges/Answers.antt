-- `build_words::edges::write_edges` meets its contract: each turn writes one edge.
use mathlib.Core.Path.{◌≡◌, sym, ap, ◌∙◌}
use mathlib.Core.List.{List}
use Prim.Native.Nat.{ℕ, ◌+◌, ◌-◌, ◌*◌}
use native.Mathlib.Omega.{arith}
use borrow.Author.Rules.{rules}
use lib.IntN.{ℤ}
use lib.ListN.{length}
use mir.Syntax.{w32}
use mir.Val.{to_z}
use Rattle.signed.proofs.Signed.{is}
use Rattle.words.specs.Word.{written, joined}
use Rattle.words.specs.Edge.{edge_size, edges_in, edge_words}
use Rattle.words.proofs.Edges.{edge-length}
use Rattle.words.proofs.Tables.{Joined, joined-none, joined-more, joined-all}
use Rattle.build_words.specs.Edges.{listed_words}
use Rattle.build_words.proofs.edges.write_edges.Goals as goal

pub loop-k-init : goal.loop-k-init
loop-k-init c = joined-none _ _ _ _

pub offset_bounds-first-k : goal.offset_bounds-first-k
offset_bounds-first-k c = omega (arith, c.requires.few)

pub bounds-first-k : goal.bounds-first-k
bounds-first-k c = omega (arith, c.requires.few)

pub offset_bounds-last-k : goal.offset_bounds-last-k
offset_bounds-last-k c = omega (arith, c.requires.few)

pub bounds-last-k : goal.bounds-last-k
bounds-last-k c = omega (arith, c.requires.few)

pub edge_between-edge-requires : goal.edge_between-edge-requires
edge_between-edge-requires c = (rw (is c.ranges.scale) (c.requires.fits c.loop-k.k (omega arith)), c.requires.starts c.loop-k.k (omega arith))

pub overflow_mul-k : goal.overflow_mul-k
overflow_mul-k c = omega (arith, c.requires.few)

pub slice_bounds-write_words-end : goal.slice_bounds-write_words-end
slice_bounds-write_words-end c =
    let long : length c.edge_words-made.result ≡ edge_size = ap length c.edge_words-made.ensures ∙ edge-length _ in
    sym long

pub write_words-requires : goal.write_words-requires
write_words-requires c =
    let long : length c.edge_words-made.result ≡ edge_size = ap length c.edge_words-made.ensures ∙ edge-length _ in
    omega (arith, c.loop-k.invariant.kept, long)

pub overflow_step-k : goal.overflow_step-k
overflow_step-k c = omega arith

pub loop-k-smaller : goal.loop-k-smaller
loop-k-smaller c = omega arith

pub loop-k-preserved : goal.loop-k-preserved
loop-k-preserved c = let at : edge_size * c.loop-k.k ≡ 0 + edge_size * c.loop-k.k = omega arith in
    joined-more (listed_words c.args.words.now _ c.args.first.now c.args.last.now) edge_size (λ (k : ℕ). edge-length _) c.edge_words-made.result
    c.loop-k.invariant (omega arith) (omega arith)
    (c.edge_words-made.ensures ∙ ap edge_words c.edge_between-edge.ensures)
    (c.write_words.ensures ∙ ap (λ (k : ℕ). written c.loop-k.room k c.edge_words-made.result) at)

pub shape_of-room : goal.shape_of-room
shape_of-room c = c.loop-k.invariant.kept

pub returns : goal.returns
returns c = joined-all c.loop-k.invariant (omega arith)
    ∙ ap (λ (z : ℤ). written c.args.room.now 0
    (joined (listed_words c.args.words.now z c.args.first.now c.args.last.now) (edges_in c.args.room.now))) (is c.ranges.scale)
