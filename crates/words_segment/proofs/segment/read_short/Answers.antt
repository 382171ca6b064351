-- `words_segment::segment::read_short` meets its contract.
use mathlib.Core.Path.{◌∙◌}
use native.Mathlib.Omega.{arith}
use lib.ListN.{get_or}
use lib.IntN.{pos}
use mir.Syntax.{w32}
use Rattle.signed.proofs.Signed.{signed, fits, is, got}
use borrow.Author.Rules.{rules}
use Rattle.words_segment.proofs.segment.read_short.Goals as goal

pub overflow_cast-result : goal.overflow_cast-result
overflow_cast-result c = let k = got w32 (get_or c.args.words.now c.args.at (pos 0)) c.word-1.given in fits (omega (arith, signed, c.requires.1))

pub returns : goal.returns
returns c = is (overflow_cast-result c) ∙ is (got w32 (get_or c.args.words.now c.args.at (pos 0)) c.word-1.given)
