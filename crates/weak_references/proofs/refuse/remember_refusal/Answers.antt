-- `weak_references::refuse::remember_refusal` meets its contract: the answers stand in their order.
use borrow.Author.Rules.{rules}
use borrow.Author.Tests.{not-true, not-false}
use native.Mathlib.Omega.{arith}
use mathlib.Core.Path.{sym, ◌∙◌}
use mathlib.Core.Bool.{true, false}
use Rattle.weak_references.proofs.Refusals.{marks_long, before-other, behind-other, ends-decide}
use Rattle.weak_references.proofs.refuse.remember_refusal.Goals as goal

pub returns-then-touched-gt-MOST_POINTS : goal.returns-then-touched-gt-MOST_POINTS
returns-then-touched-gt-MOST_POINTS c = let a = c.args in sym (marks_long a.touched.now a.ends.now a.before.now a.behind.now (omega arith))

pub returns-then-before-touched : goal.returns-then-before-touched
returns-then-before-touched c = let a = c.args in sym (before-other a.touched.now a.ends.now a.before.now a.behind.now (omega arith) c.if-before-touched.true)

pub returns-then-behind-touched : goal.returns-then-behind-touched
returns-then-behind-touched c = let a = c.args in
    sym (behind-other a.touched.now a.ends.now a.before.now a.behind.now (omega arith) (omega arith) c.if-behind-touched.true)

pub returns-then-not-ends_hold : goal.returns-then-not-ends_hold
returns-then-not-ends_hold c = let a = c.args in
    sym
    (ends-decide a.touched.now a.ends.now a.before.now a.behind.now (omega arith) (omega arith) (omega arith) false
    (sym c.ends_hold.ensures ∙ c.if-not-ends_hold.true))

pub returns : goal.returns
returns c = let a = c.args in
    sym
    (ends-decide a.touched.now a.ends.now a.before.now a.behind.now (omega arith) (omega arith) (omega arith) true
    (sym c.ends_hold.ensures ∙ c.if-not-ends_hold.false))
