-- `weak_known::number::shown` meets its contract.
use mathlib.Core.Path.{sym, ◌∙◌}
use borrow.Author.Tests.{eq-eqb, ne_eqb}
use Rattle.signed.proofs.Choices.{cond-true, cond-false}
use Rattle.weak_known.specs.Walks.{shows}
use Rattle.weak_known.proofs.number.shown.Goals as goal

pub returns-then-entry-eq-TOUCHED : goal.returns-then-entry-eq-TOUCHED
unfolding shows
returns-then-entry-eq-TOUCHED c = c.narrow.ensures ∙ sym (cond-true _ _ _ (eq-eqb _ _ c.if-entry-eq-TOUCHED.true))

pub returns : goal.returns
unfolding shows
returns c = sym (cond-false _ _ _ (ne_eqb _ _ c.if-entry-eq-TOUCHED.false))
