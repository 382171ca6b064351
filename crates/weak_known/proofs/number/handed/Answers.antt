-- `weak_known::number::handed` meets its contract.
use mathlib.Core.Path.{sym, ◌∙◌}
use borrow.Author.Tests.{lt-ltb, le-ltb}
use Rattle.signed.proofs.Choices.{cond-true, cond-false}
use Rattle.weak_known.proofs.number.handed.Goals as goal

pub returns-then-mark-gt0 : goal.returns-then-mark-gt0
returns-then-mark-gt0 c = c.narrow.ensures ∙ sym (cond-true _ _ _ (lt-ltb 0 c.args.mark c.if-mark-gt0.true))

pub returns : goal.returns
returns c = sym (cond-false _ _ _ (le-ltb 0 c.args.mark c.if-mark-gt0.false))
