-- `build_properties_words::pass::properties_in` meets its contract.
use Prim.Native.Nat.{◌-◌, ◌≤◌}
use native.Mathlib.Omega.{arith}
use Rattle.build_properties.specs.Properties.{edges}
use Rattle.words.specs.Segment.{flat_segments}
use Rattle.words_edge.specs.Whole.{Became}
use Rattle.build_properties_words.proofs.Passes.{pass-starts, pass-ready, pass-next, pass-ends}
use Rattle.build_properties_words.proofs.pass.properties_in.Goals as goal

pub loop-k-init : goal.loop-k-init
loop-k-init c = (omega arith, pass-starts _ _ c.requires.0)

pub visit_in-requires : goal.visit_in-requires
visit_in-requires c =
    let l = c in
    let p = pass-ready _ _ _ l.loop-k.invariant.1 l.requires.1 c.loop-k-test.true in
    (p.0, p.1, p.2, l.requires.2)

pub overflow_step-k : goal.overflow_step-k
overflow_step-k c = let s = c in let h = c.loop-k-test.true in omega (arith, s.requires.0.few, h)

pub loop-k-smaller : goal.loop-k-smaller
loop-k-smaller c = let h = c.loop-k-test.true in omega (arith, h)

pub loop-k-preserved : goal.loop-k-preserved
loop-k-preserved c =
    let l = c in
    let h = c.loop-k-test.true in
    (omega (arith, h), pass-next _ _ _ l.loop-k.invariant.1 c.visit_in.ensures)

pub shape_of-edges : goal.shape_of-edges
shape_of-edges c = c.loop-k.invariant.1.long

pub returns : goal.returns
returns c = pass-ends _ _ _ c.loop-k.invariant.1 c.loop-k.invariant.0 c.loop-k-test.false
