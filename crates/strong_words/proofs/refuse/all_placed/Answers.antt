-- `strong_words::refuse::all-placed` meets its contract.
use borrow.Author.Rules.{rules}
use native.Mathlib.Omega.{arith}
use mathlib.Core.Path.{◌≡◌, refl, sym, ap, ◌∙◌}
use mathlib.Core.Bool.{Bool, true}
use Prim.Native.Nat.{ℕ, ◌-◌, ◌≤◌}
use borrow.Author.Tests.{not-true, not-false}
use lib.ListN.{length}
use Rattle.axis.specs.Refusals.{every}
use Rattle.axis.proofs.Tests.{every-none, every_more, every-fails, every-done}
use Rattle.words_call.specs.Lent.{edges_of}
use Rattle.strong.specs.Strong.{strong_at, is_placed, all_placed}
use Rattle.strong_words.proofs.refuse.all_placed.Goals as goal

pub loop-i-init : goal.loop-i-init
loop-i-init c = (omega arith, every-none _)

pub strong_at-requires : goal.strong_at-requires
strong_at-requires c = (c.requires, c.loop-i-test.true)

pub returns-then-not-is_placed : goal.returns-then-not-is_placed
unfolding all_placed
returns-then-not-is_placed c =
    sym (every-fails _ _ _ c.loop-i-test.true (ap is_placed (sym c.strong_at.ensures) ∙ sym c.is_placed.ensures ∙ c.if-not-is_placed.true))

pub overflow_step-i : goal.overflow_step-i
overflow_step-i c = omega (arith, c.loop-i-test.true, c.requires.points)

pub loop-i-smaller : goal.loop-i-smaller
loop-i-smaller c = omega (arith, c.loop-i-test.true)

pub loop-i-preserved : goal.loop-i-preserved
loop-i-preserved c =
    (omega (arith, c.loop-i-test.true), every_more _ _ c.loop-i.invariant.1 (ap is_placed (sym c.strong_at.ensures) ∙ sym c.is_placed.ensures ∙ c.if-not-is_placed.false))

pub returns : goal.returns
unfolding all_placed
returns c = let v = c.loop-i.invariant in every-done _ _ _ _ v.0 c.loop-i-test.false refl v.1
