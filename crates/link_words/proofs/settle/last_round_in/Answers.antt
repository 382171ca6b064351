-- `link_words::settle::last_round_in` meets its contract.
use mathlib.Core.Path.{refl}
use Prim.Native.Nat.{◌-◌}
use native.Mathlib.Omega.{arith}
use Rattle.link.specs.Rounds.{last_turn}
use Rattle.link_words.proofs.Turns.{Turned, turns-start, turns_next, turns-end}
use Rattle.link_words.proofs.Settled.{settle-sound, lasts-law}
use Rattle.link_words.proofs.settle.last_round_in.Goals as goal

pub loop-ix1-init : goal.loop-ix1-init
loop-ix1-init c = turns-start _ _ c.args.words.now c.requires.whole refl

pub settle_in-requires : goal.settle_in-requires
settle_in-requires c =
    let l = c in
    let p = l.loop-ix1.invariant in
    let h = c.loop-ix1-test.true in
    (settle-sound l.args.thresholds l.requires p, omega (arith, p.count, h))

pub overflow_step-ix1 : goal.overflow_step-ix1
overflow_step-ix1 c = let p = c.loop-ix1.invariant in let h = c.loop-ix1-test.true in omega (arith, p.few, h)

pub loop-ix1-smaller : goal.loop-ix1-smaller
loop-ix1-smaller c = let h = c.loop-ix1-test.true in omega (arith, h)

pub loop-ix1-preserved : goal.loop-ix1-preserved
loop-ix1-preserved c =
    let i = c in
    turns_next _ _ _ i.loop-ix1.invariant i.loop-ix1-test.true c.settle_in.ensures

pub shape_of-words : goal.shape_of-words
shape_of-words c = c.loop-ix1.invariant.long

pub returns : goal.returns
returns c = let l = c in lasts-law l.args.thresholds refl (turns-end _ _ _ l.loop-ix1.invariant c.loop-ix1-test.false)
