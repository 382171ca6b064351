-- `log_digits::digit::digit_of` meets its contract.
use borrow.Author.Rules.{rules}
use native.Mathlib.Omega.{arith}
use Rattle.log_digits.proofs.Characters.{digit_low, digit-high}
use Rattle.log_digits.proofs.digit.digit_of.Goals as goal

pub returns-then-value-lt10 : goal.returns-then-value-lt10
returns-then-value-lt10 c = digit_low _ c.requires (omega arith)

pub returns : goal.returns
returns c = digit-high _ c.requires (omega arith)
