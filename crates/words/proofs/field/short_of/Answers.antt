-- `words::field::short_of` meets its contract.
use native.Mathlib.Omega.{arith}
use mathlib.Core.Path.{◌∙◌}
use Rattle.signed.proofs.Signed.{signed, fits, is}
use Rattle.words.proofs.Fields.{short-low, short-high, short-is}
use Rattle.words.proofs.field.short_of.Goals as goal

pub returns-then-word-ltminus32768 : goal.returns-then-word-ltminus32768
returns-then-word-ltminus32768 c = short-low c.args.word (omega (arith, signed))

pub returns-then-word-gt32767 : goal.returns-then-word-gt32767
returns-then-word-gt32767 c = short-high c.args.word (omega (arith, signed))

pub overflow_cast-result : goal.overflow_cast-result
overflow_cast-result c = fits (omega (arith, signed))

pub returns : goal.returns
returns c = let s = c.before.before in is (overflow_cast-result c) ∙ is s.ranges.word ∙ short-is s.args.word (omega (arith, signed)) (omega (arith, signed))
