-- `strong_words::place::is_held` meets its contract.
use Rattle.strong_words.proofs.Walks.{held-touched, held-weak, held-not}
use borrow.Author.Rules.{rules}
use Rattle.strong_words.proofs.place.is_held.Goals as goal

pub returns-then-touched-i-ne0 : goal.returns-then-touched-i-ne0
returns-then-touched-i-ne0 c = let a = c.args in held-touched a.touched.now a.weak.now a.i c.if-touched-i-ne0.true

pub returns-then-weak-i-ne0 : goal.returns-then-weak-i-ne0
returns-then-weak-i-ne0 c = let e = c in let a = e.args in held-weak a.touched.now a.weak.now a.i e.if-touched-i-ne0.false c.if-weak-i-ne0.true

pub returns : goal.returns
returns c = let e = c in let a = e.args in held-not a.touched.now a.weak.now a.i e.if-touched-i-ne0.false c.if-weak-i-ne0.false
