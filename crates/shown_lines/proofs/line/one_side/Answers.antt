-- `shown_lines::line::one_side` meets its contract.
use mathlib.Core.Path.{refl}
use borrow.Author.Tests.{ltb-true, leb-true}
use Rattle.signed.proofs.Choices.{clash}
use Rattle.shown_lines.specs.Lines.{none_above, all_above}
use Rattle.shown_lines.proofs.line.one_side.Goals as goal

pub returns-then-y-c : goal.returns-then-y-c
returns-then-y-c c = λ e. all_above c.if-y-p.true c.if-y-c.true (ltb-true _ _ e)

pub returns-then-y-p : goal.returns-then-y-p
returns-then-y-p c = λ e. absurd (clash _ refl e)

pub returns-then-y-c-2 : goal.returns-then-y-c-2
returns-then-y-c-2 c = λ e. absurd (clash _ refl e)

pub returns : goal.returns
returns c = λ e. none_above c.if-y-p.false c.if-y-c-2.false (leb-true _ _ e)
