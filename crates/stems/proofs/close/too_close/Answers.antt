-- `stems::close::too_close` meets its contract.
use Rattle.stems.specs.Visit.{too_close}
use borrow.Author.Rules.{rules}
use Rattle.stems.proofs.close.too_close.Goals as goal

pub returns-in-Default : goal.returns-in-Default
unfolding too_close
returns-in-Default c = rw c.in-Default.is

pub returns-in-Cjk : goal.returns-in-Cjk
unfolding too_close
returns-in-Cjk c = rw c.in-Cjk.is c.is_close.ensures
