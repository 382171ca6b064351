-- `weak_known::number::number_by` meets its contract.
use mathlib.Core.Path.{sym, ◌∙◌}
use borrow.Author.Tests.{eq-eqb, ne_eqb}
use Rattle.signed.proofs.Choices.{cond-true, cond-false}
use Rattle.weak_known.proofs.number.number_by.Goals as goal

pub returns-then-entry-eq-TOUCHED : goal.returns-then-entry-eq-TOUCHED
returns-then-entry-eq-TOUCHED c = c.if-entry-eq-TOUCHED.true ∙ sym (cond-true _ _ _ (eq-eqb _ _ c.if-entry-eq-TOUCHED.true))

pub returns : goal.returns
returns c = sym (cond-false _ _ _ (ne_eqb _ _ c.if-entry-eq-TOUCHED.false))
