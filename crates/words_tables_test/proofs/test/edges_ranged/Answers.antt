-- `words_tables_test::test::edges_ranged` meets its contract.
use borrow.Author.Rules.{rules}
use mathlib.Core.Path.{sym}
use Rattle.words_tables_test.proofs.test.edges_ranged.Goals as goal

pub returns-then-held : goal.returns-then-held
returns-then-held c = sym (c.requires c.if-held.true).edges.numbers

pub returns : goal.returns
returns c = c.numbers_hold.ensures
