-- `words::word::size_of` meets its contract.
use native.Mathlib.Omega.{arith}
use lib.IntN.{ℤ}
use mir.Syntax.{w32, w64}
use mir.Val.{to_z, of_z}
use Rattle.signed.proofs.Signed.{signed, range, one-zero, nat_abs-is, to-unsigned}
use Rattle.words.proofs.word.size_of.Goals as goal
use Rattle.words.proofs.word.size_of.Goals.{Start}

-- the word as the machine reads it
abbrev read : Start → ℤ
read s = to_z w32 (of_z w32 s.args.word)

pub returns-then-word-lt0 : goal.returns-then-word-lt0
returns-then-word-lt0 c = omega (arith, signed, one-zero c.args.word)

pub overflow_cast-result : goal.overflow_cast-result
overflow_cast-result c = to-unsigned w64 (read c.before) (omega (arith, signed, range c.ranges.word))

pub returns : goal.returns
returns c = let z = read c.before in omega (arith, signed, one-zero c.args.word, nat_abs-is z, one-zero z)
