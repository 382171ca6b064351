-- `remaining_pass_words::pass::visit_all` meets its contract.
use Prim.Native.Nat.{◌-◌}
use native.Mathlib.Omega.{arith}
use Rattle.remaining_pass_words.proofs.Passes.{aligning-starts, aligning-ready, aligning-next, aligning-ends}
use Rattle.remaining_pass_words.proofs.pass.visit_all.Goals as goal

pub loop-i-init : goal.loop-i-init
loop-i-init c = aligning-starts _ _ c.requires

pub visit_in-past-requires : goal.visit_in-past-requires
visit_in-past-requires c = aligning-ready _ _ c.loop-i.invariant c.loop-i-test.true

pub loop-i-preserved : goal.loop-i-preserved
loop-i-preserved c = aligning-next _ _ c.loop-i.invariant c.loop-i-test.true c.visit_in-past.ensures

pub shape_of-words : goal.shape_of-words
shape_of-words c = c.loop-i.invariant.long

pub returns : goal.returns
returns c = aligning-ends _ _ c.loop-i.invariant c.loop-i-test.false
