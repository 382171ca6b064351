-- `fit_back_words::copied::copy_marks` meets its contract.
use native.Mathlib.Omega.{arith}
use mathlib.Core.Path.{refl}
use Prim.Native.Nat.{◌-◌}
use Rattle.remaining_words.proofs.Copying.{Copied, copied_none, copied_more, copied_all}
use Rattle.fit_back_words.proofs.copied.copy_marks.Goals as goal

pub loop-i-init : goal.loop-i-init
loop-i-init c = copied_none _ _ c.requires

pub bounds-from-i : goal.bounds-from-i
bounds-from-i c = let t = c in let k = t.loop-i.invariant.count in omega (arith, k, t.loop-i-test.true)

pub bounds-to-i : goal.bounds-to-i
bounds-to-i c =
    let t = c in
    let i = t.loop-i.invariant in
    omega (arith, i.count, i.room, i.long, t.loop-i-test.true)

pub overflow_step-i : goal.overflow_step-i
overflow_step-i c = omega arith

pub loop-i-smaller : goal.loop-i-smaller
loop-i-smaller c = omega arith

pub loop-i-preserved : goal.loop-i-preserved
loop-i-preserved c =
    let t = c in
    copied_more _ _ t.loop-i.invariant 0 t.loop-i-test.true refl refl

pub shape_of-to : goal.shape_of-to
shape_of-to c = c.loop-i.invariant.long

pub returns : goal.returns
returns c = copied_all _ _ c.loop-i.invariant c.loop-i-test.false
