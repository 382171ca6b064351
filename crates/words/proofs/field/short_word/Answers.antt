-- `words::field::short_word` meets its contract.
use native.Mathlib.Omega.{arith}
use mathlib.Core.Path.{◌∙◌}
use Rattle.signed.proofs.Signed.{signed, fits, range, is}
use Rattle.words.proofs.field.short_word.Goals as goal

pub overflow_cast-result : goal.overflow_cast-result
overflow_cast-result c = fits (omega (arith, signed, range c.ranges.number))

pub returns : goal.returns
returns c = is (overflow_cast-result c) ∙ is c.ranges.number
