-- `link_words::serif::serif_round_in` meets its contract.
use mathlib.Core.Path.{refl}
use Prim.Native.Nat.{◌-◌}
use native.Mathlib.Omega.{arith}
use Rattle.link.specs.Rounds.{serif_turn}
use Rattle.link_words.proofs.Turns.{Turned, turns-start, turns-counted, turns-end}
use Rattle.link_words.proofs.Serifs.{near-sound, serifs-law}
use Rattle.link_words.proofs.serif.serif_round_in.Goals as goal

pub loop-ix1-init : goal.loop-ix1-init
loop-ix1-init c = turns-start _ _ c.args.words.now c.requires.whole refl

pub near_in-requires : goal.near_in-requires
near_in-requires c =
    let l = c in
    let p = l.loop-ix1.invariant in
    let h = c.loop-ix1-test.true in
    (near-sound l.args.thresholds l.requires p, omega (arith, p.count, h))

pub overflow_step-ix1 : goal.overflow_step-ix1
overflow_step-ix1 c = let p = c.loop-ix1.invariant in let h = c.loop-ix1-test.true in omega (arith, p.few, h)

pub loop-ix1-smaller : goal.loop-ix1-smaller
loop-ix1-smaller c = let h = c.loop-ix1-test.true in omega (arith, h)

pub loop-ix1-preserved : goal.loop-ix1-preserved
loop-ix1-preserved c =
    let i = c in
    let l = i in
    turns-counted (serif_turn l.args.thresholds) l.loop-ix1.invariant i.loop-ix1-test.true c.near_in.ensures

pub shape_of-words : goal.shape_of-words
shape_of-words c = c.loop-ix1.invariant.long

pub returns : goal.returns
returns c = let l = c in let s = l in serifs-law s.args.thresholds s.requires refl (turns-end _ _ _ l.loop-ix1.invariant c.loop-ix1-test.false)
