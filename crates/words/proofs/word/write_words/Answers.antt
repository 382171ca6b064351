-- `words::word::write_words` meets its contract.
use native.Mathlib.Omega.{arith}
use mathlib.Core.Path.{refl}
use lib.ListN.{get_or}
use lib.IntN.{pos}
use mir.Syntax.{w32}
use Rattle.signed.proofs.Signed.{is, got}
use Rattle.words.proofs.Writing.{pasted-none, pasted-more, pasted-all}
use Rattle.words.proofs.word.write_words.Goals as goal

pub loop-i-init : goal.loop-i-init
loop-i-init c = (pasted-none c.args.words.now c.args.out.now c.args.at, refl)

pub bounds-words-i : goal.bounds-words-i
bounds-words-i c = let k = c.loop-i.invariant.1 in omega (arith, k, c.loop-i-test.true)

pub overflow_add-word : goal.overflow_add-word
overflow_add-word c = let k = c.loop-i.invariant.1 in omega (arith, k, c.loop-i-test.true)

pub bounds-out-at : goal.bounds-out-at
bounds-out-at c = let k = c.loop-i.invariant.1 in omega (arith, k, c.loop-i.invariant.0.kept, c.requires, c.loop-i-test.true)

pub overflow_step-i : goal.overflow_step-i
overflow_step-i c = omega arith

pub loop-i-smaller : goal.loop-i-smaller
loop-i-smaller c = omega arith

pub loop-i-preserved : goal.loop-i-preserved
loop-i-preserved c =
    let k = c.loop-i.invariant.1 in (
      pasted-more _ c.loop-i.invariant.0 (omega (arith, k, c.loop-i-test.true)) c.requires
          (is (got w32 (get_or c.args.words.now c.loop-i.i (pos 0)) c.word-1.given)),
      k,
    )

pub shape_of-out : goal.shape_of-out
shape_of-out c = c.loop-i.invariant.0.kept

pub returns : goal.returns
returns c = let k = c.loop-i.invariant.1 in pasted-all c.loop-i.invariant.0 (omega (arith, k, c.loop-i-test.false))
