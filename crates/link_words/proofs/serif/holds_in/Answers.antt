-- `link_words::serif::holds_in` meets its contract.
use mathlib.Core.Path.{refl}
use Prim.Native.Nat.{◌-◌, ◌<◌}
use native.Mathlib.Omega.{arith}
use Rattle.signed.specs.Range.{Between}
use Rattle.axis.specs.Limits.{most_score}
use Rattle.link_words.proofs.Serifs.{Holding, holds-start, holds-next, holds-break, holds-end}
use Rattle.link_words.proofs.serif.holds_in.Goals as goal

pub loop-ix2-init : goal.loop-ix2-init
loop-ix2-init c = (c.requires.1, c.requires.2, c.requires.3, holds-start _ _ _ _ _ c.args.words.now c.requires.0 refl)

pub hold_in-requires : goal.hold_in-requires
hold_in-requires c =
    let p = c.loop-ix2.invariant in
    let h = c.loop-ix2-test.true in
    record {
      linkable = (p.3.sound, omega (arith, p.3.count, p.0), omega (arith, p.3.count, p.1), omega (arith, p.3.count, h));
      between = p.2;
    }

pub returns-then-hold_in : goal.returns-then-hold_in
returns-then-hold_in c =
    let g = c in
    let i = g in
    holds-break _ _ _ _ _ _ i.loop-ix2.invariant.3 i.loop-ix2-test.true g.hold_in.ensures c.if-hold_in.true

pub shape_of-words-then-hold_in : goal.shape_of-words-then-hold_in
shape_of-words-then-hold_in c = (returns-then-hold_in c).long

pub overflow_step-ix2 : goal.overflow_step-ix2
overflow_step-ix2 c = let i = c in let p = i.loop-ix2.invariant in let h = i.loop-ix2-test.true in omega (arith, p.3.few, h)

pub loop-ix2-smaller : goal.loop-ix2-smaller
loop-ix2-smaller c = let h = c.loop-ix2-test.true in omega (arith, h)

pub loop-ix2-preserved : goal.loop-ix2-preserved
loop-ix2-preserved c =
    let g = c in
    let i = g in
    let p = i.loop-ix2.invariant in
    (p.0, p.1, p.2, holds-next _ _ _ _ _ _ p.3 i.loop-ix2-test.true g.hold_in.ensures c.if-hold_in.false)

pub shape_of-words : goal.shape_of-words
shape_of-words c = c.loop-ix2.invariant.3.long

pub returns : goal.returns
returns c = holds-end _ _ _ _ _ _ c.loop-ix2.invariant.3 c.loop-ix2-test.false
