-- `weak_known::round::stretch_end` meets its contract.
use mathlib.Core.Path.{sym}
use borrow.Author.Tests.{lt-ltb, le-ltb}
use Rattle.signed.proofs.Choices.{cond-true, cond-false}
use Rattle.weak_known.proofs.round.stretch_end.Goals as goal

pub returns-then-i-q : goal.returns-then-i-q
returns-then-i-q c = sym (cond-true _ _ _ (lt-ltb c.args.i c.args.q c.if-i-q.true))

pub returns : goal.returns
returns c = sym (cond-false _ _ _ (le-ltb c.args.i c.args.q c.if-i-q.false))
