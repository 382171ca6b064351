-- `words::field::index_word` meets its contract.
use borrow.Author.Rules.{rules}
use Rattle.signed.proofs.Signed.{is}
use Rattle.words.proofs.field.index_word.Goals as goal

pub overflow_cast-result : goal.overflow_cast-result
overflow_cast-result c = search rules

pub returns : goal.returns
returns c = is (overflow_cast-result c)
