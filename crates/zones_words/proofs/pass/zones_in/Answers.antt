-- `zones_words::pass::zones_in` meets its contract.
use mathlib.Core.Path.{refl}
use Prim.Native.Nat.{◌-◌}
use Rattle.zones_words.proofs.Passes.{zoning-starts, zoning-ready, zoning-next, zoning-ends}
use Rattle.zones_words.proofs.pass.zones_in.Goals as goal

pub loop-i-init : goal.loop-i-init
loop-i-init c = zoning-starts c.args.rule c.args.standards.now c.requires.whole.0 refl c.requires.whole.1

pub visit_in-anchor-requires : goal.visit_in-anchor-requires
visit_in-anchor-requires c = record { standards_value = c.requires.standards_value; whole = zoning-ready _ _ c.loop-i.invariant c.loop-i-test.true }

pub loop-i-preserved : goal.loop-i-preserved
loop-i-preserved c =
    let l = c in zoning-next _ _ l.loop-i.invariant c.loop-i-test.true c.visit_in-anchor.ensures

pub shape_of-words : goal.shape_of-words
shape_of-words c = c.loop-i.invariant.long

pub returns : goal.returns
returns c = zoning-ends _ _ c.loop-i.invariant c.loop-i-test.false
