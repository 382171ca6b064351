-- `remaining_words::copied::copy` meets its contract.
use native.Mathlib.Omega.{arith}
use mathlib.Core.Path.{refl, ◌∙◌}
use lib.IntN.{pos}
use mir.Syntax.{w32}
use Rattle.signed.proofs.Signed.{is, got}
use Rattle.remaining_words.proofs.Copying.{copied_none, copied_more, copied_all}
use Rattle.remaining_words.proofs.copied.copy.Goals as goal

pub loop-i-init : goal.loop-i-init
loop-i-init c = copied_none _ _ c.requires

pub read_word-requires : goal.read_word-requires
read_word-requires c = let k = c.loop-i.invariant.count in omega (arith, k, c.loop-i-test.true)

pub bounds-to-i : goal.bounds-to-i
bounds-to-i c =
    let i = c.loop-i.invariant in
    omega (arith, i.count, i.room, i.long, c.loop-i-test.true)

pub overflow_step-i : goal.overflow_step-i
overflow_step-i c = omega arith

pub loop-i-smaller : goal.loop-i-smaller
loop-i-smaller c = omega arith

pub loop-i-preserved : goal.loop-i-preserved
loop-i-preserved c =
    copied_more _ _ c.loop-i.invariant (pos 0) c.loop-i-test.true (is (got w32 c.read_word.result c.read_word.type_inv) ∙ c.read_word.ensures) refl

pub shape_of-to : goal.shape_of-to
shape_of-to c = c.loop-i.invariant.long

pub returns : goal.returns
returns c = copied_all _ _ c.loop-i.invariant c.loop-i-test.false
