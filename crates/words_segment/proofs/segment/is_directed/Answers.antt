-- `words_segment::segment::is_directed` meets its contract.
use mathlib.Core.Path.{ap, ◌∙◌}
use lib.IntN.{ℤ}
use mir.Syntax.{w32}
use Rattle.signed.specs.Equality.{eq_z}
use Rattle.signed.proofs.Reading.{eq-same}
use Rattle.words_segment.proofs.Wholes.{dir-is}
use borrow.Author.Rules.{rules}
use Rattle.words_segment.proofs.segment.is_directed.Goals as goal

pub returns : goal.returns
returns c =
    let s = c in
    eq-same w32 c.read_word.result s.args.dir c.read_word.type_inv s.ranges.dir.sfits
    ∙ ap (λ (z : ℤ). eq_z z s.args.dir) (c.read_word.ensures ∙ dir-is s.args.words.now s.args.i s.requires.0 s.requires.1)
