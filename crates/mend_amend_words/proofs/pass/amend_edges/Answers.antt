-- `mend_amend_words::pass::amend_edges` meets its contract: each turn alters one edge.
use Prim.Native.Nat.{◌≤◌, ◌<◌, ◌-◌}
use native.Mathlib.Omega.{arith}
use mathlib.Core.Path.{◌∙◌}
use Rattle.words.specs.Edge.{edges_in}
use Rattle.words_edge.proofs.Became.{below_in}
use Rattle.mend_amend_words.proofs.Passes.{EdgesTo, edges_none, edges_room, edges_long, edges_more, edges-all}
use Rattle.mend_amend_words.proofs.pass.amend_edges.Goals as goal

pub loop-k-init : goal.loop-k-init
loop-k-init c = (omega arith, edges_none _ _ _ _ _ _ c.requires.0 c.requires.1 c.requires.2)

pub bounds-broken-k : goal.bounds-broken-k
bounds-broken-k c = omega (arith, c.requires.0.few)

pub offset_bounds-firsts-k : goal.offset_bounds-firsts-k
offset_bounds-firsts-k c = omega (arith, c.requires.0.few)

pub bounds-firsts-k : goal.bounds-firsts-k
bounds-firsts-k c = omega (arith, c.requires.0.few)

pub offset_bounds-lasts-k : goal.offset_bounds-lasts-k
offset_bounds-lasts-k c = omega (arith, c.requires.0.few)

pub bounds-lasts-k : goal.bounds-lasts-k
bounds-lasts-k c = omega (arith, c.requires.0.few)

pub amend_edge-count-requires : goal.amend_edge-count-requires
amend_edge-count-requires c =
    let below : c.loop-k.k < edges_in c.args.edges.now = omega arith in
    let a = c.loop-k.invariant.1 in
    let p = c.requires in (
      a.became.whole,
      below_in c.loop-k.k a.became below,
      edges_room _ _ _ _ _ _ p.0 p.1 p.2 a below,
      edges_long _ _ _ _ _ _ p.0
          p.1 p.2 a c.loop-k.invariant.0 ∙ p.2,
    )

pub overflow_step-k : goal.overflow_step-k
overflow_step-k c = omega arith

pub loop-k-smaller : goal.loop-k-smaller
loop-k-smaller c = omega arith

pub loop-k-preserved : goal.loop-k-preserved
loop-k-preserved c =
    let below : c.loop-k.k < edges_in c.args.edges.now = omega arith in
    let p = c.requires in
    (omega arith, edges_more _ _ _ _ _ _ p.0 p.1 p.2 c.loop-k.invariant.1 below c.amend_edge-count.ensures)

pub shape_of-edges : goal.shape_of-edges
shape_of-edges c = c.loop-k.invariant.1.became.long

pub shape_of-room : goal.shape_of-room
shape_of-room c = let p = c.requires in edges_long _ _ _ _ _ _ p.0 p.1 p.2 c.loop-k.invariant.1 c.loop-k.invariant.0

pub returns : goal.returns
returns c = let p = c.requires in
    edges-all _ _ _ _ _ _ p.0 p.1 p.2 c.loop-k.invariant.0 (omega arith) c.loop-k.invariant.1
