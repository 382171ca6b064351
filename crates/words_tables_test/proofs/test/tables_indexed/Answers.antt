-- `words_tables_test::test::tables_indexed` meets its contract.
use borrow.Author.Rules.{rules}
use Rattle.words_tables_test.proofs.Tables.{all-indexed}
use Rattle.words_tables_test.proofs.test.tables_indexed.Goals as goal

pub returns-then-held : goal.returns-then-held
returns-then-held c = let s = c in all-indexed _ _ (s.requires c.if-held.true)

pub returns : goal.returns
returns c = c.index_refusal.ensures
