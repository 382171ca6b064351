-- `build_mark_words::mark::mark_in` meets its contract: each turn marks the ring of one edge.
use mathlib.Core.Path.{◌∙◌}
use Prim.Native.Nat.{◌-◌, ◌≤◌, ◌<◌}
use native.Mathlib.Omega.{arith}
use Rattle.axis.specs.Limits.{most_edges}
use Rattle.words.specs.Segment.{segments_in}
use Rattle.words_segment.specs.Whole.{Became}
use Rattle.build_mark_words.specs.Marking.{RingsIn, walked_marks}
use Rattle.build_mark_words.proofs.Marking.{still-rings, edges-start, edges-next, edges-end}
use Rattle.build_mark_words.proofs.mark.mark_in.Goals as goal

pub forget_in-requires : goal.forget_in-requires
forget_in-requires c = c.requires.0

pub loop-edge_ix-init : goal.loop-edge_ix-init
loop-edge_ix-init c = let a = c.forget_in.ensures in
    (omega arith, still-rings c.args.words.now c.forget_in.new.words a.long c.requires.1, edges-start _ _ _ _ a.whole)

pub overflow_cast-edge_ix : goal.overflow_cast-edge_ix
overflow_cast-edge_ix c =
    let inside : c.loop-edge_ix.edge_ix < most_edges = omega (arith, c.loop-edge_ix-test.true, c.loop-edge_ix.invariant.1.few) in
    omega (arith, inside)

pub offset_bounds-first-edge_ix : goal.offset_bounds-first-edge_ix
offset_bounds-first-edge_ix c =
    let inside : c.loop-edge_ix.edge_ix < most_edges = omega (arith, c.loop-edge_ix-test.true, c.loop-edge_ix.invariant.1.few) in
    omega (arith, inside)

pub bounds-first-edge_ix : goal.bounds-first-edge_ix
bounds-first-edge_ix c =
    let inside : c.loop-edge_ix.edge_ix < most_edges = omega (arith, c.loop-edge_ix-test.true, c.loop-edge_ix.invariant.1.few) in
    inside

pub offset_bounds-last-edge_ix : goal.offset_bounds-last-edge_ix
offset_bounds-last-edge_ix c =
    let inside : c.loop-edge_ix.edge_ix < most_edges = omega (arith, c.loop-edge_ix-test.true, c.loop-edge_ix.invariant.1.few) in
    omega (arith, inside)

pub bounds-last-edge_ix : goal.bounds-last-edge_ix
bounds-last-edge_ix c =
    let inside : c.loop-edge_ix.edge_ix < most_edges = omega (arith, c.loop-edge_ix-test.true, c.loop-edge_ix.invariant.1.few) in
    inside

pub mark_ring_in-requires : goal.mark_ring_in-requires
mark_ring_in-requires c =
    let inside : c.loop-edge_ix.edge_ix < most_edges = omega (arith, c.loop-edge_ix-test.true, c.loop-edge_ix.invariant.1.few) in
    let p = c.loop-edge_ix.invariant in
    let h = c.loop-edge_ix-test.true in
    (p.2.whole, inside, p.1.starts _ h, p.1.stops _ h)

pub overflow_step-edge_ix : goal.overflow_step-edge_ix
overflow_step-edge_ix c =
    let inside : c.loop-edge_ix.edge_ix < most_edges = omega (arith, c.loop-edge_ix-test.true, c.loop-edge_ix.invariant.1.few) in
    omega (arith, inside)

pub loop-edge_ix-smaller : goal.loop-edge_ix-smaller
loop-edge_ix-smaller c = omega (arith, c.loop-edge_ix-test.true)

pub loop-edge_ix-preserved : goal.loop-edge_ix-preserved
loop-edge_ix-preserved c = let p = c.loop-edge_ix.invariant in
    let a = c.mark_ring_in.ensures in (
      omega (arith, c.loop-edge_ix-test.true),
      still-rings c.loop-edge_ix.words c.mark_ring_in.new.words a.long p.1,
      edges-next _ _ _ _ c.loop-edge_ix.edge_ix
          p.2 a,
    )

pub shape_of-words : goal.shape_of-words
shape_of-words c = c.loop-edge_ix.invariant.2.long ∙ c.forget_in.ensures.long

pub returns : goal.returns
returns c = edges-end _ _ _ c.forget_in.ensures c.loop-edge_ix.invariant.0 c.loop-edge_ix-test.false c.loop-edge_ix.invariant.2
