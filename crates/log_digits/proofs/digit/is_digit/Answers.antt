-- `log_digits::digit::is_digit` meets its contract, by where the character stands.
use native.Mathlib.Omega.{arith}
use Rattle.log_digits.proofs.Characters.{figure, letter, front, amid, behind}
use Rattle.log_digits.proofs.digit.is_digit.Goals as goal

pub returns-in-48-to-57 : goal.returns-in-48-to-57
returns-in-48-to-57 c = figure _ (omega arith) (omega arith)

pub returns-in-65-to-70 : goal.returns-in-65-to-70
returns-in-65-to-70 c = letter _ (omega arith) (omega arith)

pub returns-in_default : goal.returns-in_default
returns-in_default c = front _ (omega arith)

pub returns-in_default-2 : goal.returns-in_default-2
returns-in_default-2 c = amid _ (omega arith) (omega arith)

pub returns-in_default-3 : goal.returns-in_default-3
returns-in_default-3 c = behind _ (omega arith)
