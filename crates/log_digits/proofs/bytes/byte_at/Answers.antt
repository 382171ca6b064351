-- `log_digits::bytes::byte_at` meets its contract: 15 sixteens and 15 fit a byte.
use borrow.Author.Rules.{rules}
use native.Mathlib.Omega.{arith}
use Rattle.log_digits.specs.Digits.{byte_at}
use Rattle.log_digits.proofs.Characters.{value-below}
use Rattle.log_digits.proofs.bytes.byte_at.Goals as goal

pub overflow_mul-result : goal.overflow_mul-result
overflow_mul-result c = record { fits = omega (arith, value-below _ c.value_of-high.ensures) }

pub overflow_add-result : goal.overflow_add-result
overflow_add-result c = record { fits = omega (arith, value-below _ c.value_of-high.ensures, value-below _ c.value_of-low.ensures) }

pub returns : goal.returns
unfolding byte_at
returns c = omega (arith, c.value_of-high.ensures, c.value_of-low.ensures)
