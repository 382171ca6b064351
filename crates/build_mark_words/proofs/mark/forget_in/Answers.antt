-- `build_mark_words::mark::forget_in` meets its contract: each turn clears one segment.
use Prim.Native.Nat.{◌-◌, ◌≤◌}
use native.Mathlib.Omega.{arith}
use Rattle.axis.specs.Limits.{most_edges}
use Rattle.axis.proofs.Acceptance.{below_none}
use Rattle.build_mark.specs.Marks.{clear}
use Rattle.words.specs.Segment.{segments_in}
use Rattle.words_segment.specs.Whole.{Became}
use Rattle.words_segment.proofs.Became.{below_in}
use Rattle.build_mark_words.proofs.Marking.{forget-start, forget-next, forget-end}
use Rattle.build_mark_words.proofs.mark.forget_in.Goals as goal

pub loop-i-init : goal.loop-i-init
loop-i-init c = (omega arith, forget-start _ c.requires)

pub put_ring-requires : goal.put_ring-requires
put_ring-requires c =
    let l = c in
    let a = l.loop-i.invariant.1 in
    (a.whole, below_in l.loop-i.i a c.loop-i-test.true, below_none most_edges, below_none 65536)

pub overflow_step-i : goal.overflow_step-i
overflow_step-i c = omega arith

pub loop-i-smaller : goal.loop-i-smaller
loop-i-smaller c = omega arith

pub loop-i-preserved : goal.loop-i-preserved
loop-i-preserved c =
    let l = c in
    (omega arith, forget-next _ l.loop-i.invariant.1 c.put_ring.ensures)

pub shape_of-words : goal.shape_of-words
shape_of-words c = c.loop-i.invariant.1.long

pub returns : goal.returns
returns c = let p = c.loop-i.invariant in forget-end _ p.1 p.0 c.loop-i-test.false
