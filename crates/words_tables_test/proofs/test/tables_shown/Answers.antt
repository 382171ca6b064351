-- `words_tables_test::test::tables_shown` meets its contract.
use borrow.Author.Rules.{rules}
use Rattle.words_tables_test.proofs.Tables.{all_shown}
use Rattle.words_tables_test.proofs.test.tables_shown.Goals as goal

pub returns-then-held : goal.returns-then-held
returns-then-held c = let s = c in all_shown _ _ (s.requires c.if-held.true)
