-- `log_digits::digit::value_of` meets its contract, by where the character stands.
use borrow.Author.Rules.{rules}
use native.Mathlib.Omega.{arith}
use Rattle.log_digits.proofs.Characters.{figure-value, letter-value, front-value, amid-value, behind-value}
use Rattle.log_digits.proofs.digit.value_of.Goals as goal

pub returns-in-48-to-57 : goal.returns-in-48-to-57
returns-in-48-to-57 c = figure-value _ (omega arith) (omega arith)

pub returns-in-65-to-70 : goal.returns-in-65-to-70
returns-in-65-to-70 c = letter-value _ (omega arith) (omega arith)

pub returns-in_default : goal.returns-in_default
returns-in_default c = front-value _ (omega arith)

pub returns-in_default-2 : goal.returns-in_default-2
returns-in_default-2 c = amid-value _ (omega arith) (omega arith)

pub returns-in_default-3 : goal.returns-in_default-3
returns-in_default-3 c = behind-value _ (omega arith)
