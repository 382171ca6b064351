-- `strong_words::search::read_fpos` meets its contract.
use borrow.Author.Rules.{rules}
use mathlib.Core.Path.{◌∙◌}
use mir.Syntax.{w32}
use Rattle.words.proofs.Fields.{kept}
use Rattle.strong_words.proofs.Reading.{fpos-word}
use Rattle.strong_words.proofs.search.read_fpos.Goals as goal

pub returns : goal.returns
returns c =
    let s = c in
    kept w32 c.read_word.result c.read_word.type_inv ∙ c.read_word.ensures ∙ fpos-word s.args.words.now s.args.i s.requires.0 s.requires.1
