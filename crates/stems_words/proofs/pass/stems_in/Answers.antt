-- `stems_words::pass::stems_in` meets its contract.
use native.Mathlib.Omega.{arith}
use Rattle.stems_words.proofs.Passes.{aligning-starts, aligning-ready, aligning-next, aligning-ends}
use Rattle.stems_words.proofs.pass.stems_in.Goals as goal

pub loop-i-init : goal.loop-i-init
loop-i-init c = let h = c.requires.whole in aligning-starts _ _ _ _ h.0 h.1 h.2 h.3

pub visit_in-past-requires : goal.visit_in-past-requires
visit_in-past-requires c = record { standards_value = c.requires.standards_value; ready_visit = aligning-ready _ _ _ _ c.loop-i.invariant c.loop-i-test.true }

pub loop-i-preserved : goal.loop-i-preserved
loop-i-preserved c = aligning-next _ _ _ _ c.loop-i.invariant c.loop-i-test.true c.visit_in-past.ensures

pub shape_of-words : goal.shape_of-words
shape_of-words c = c.loop-i.invariant.long

pub returns : goal.returns
returns c = aligning-ends _ _ _ _ c.loop-i.invariant c.loop-i-test.false
