-- `fit_edges_words::hold::pos_holds` meets its contract.
use mathlib.Core.Path.{sym, ap, ◌∙◌}
use mir.Syntax.{w32}
use Rattle.axis.specs.declared.kinds.Dimension.TheVariants.{Horizontal}
use Rattle.axis.specs.Limits.{most_pos}
use Rattle.axis.specs.Refusals.{within}
use Rattle.words.proofs.Fields.{kept}
use Rattle.words_edge.proofs.Reading.{pos-in}
use borrow.Author.Rules.{rules}
use Rattle.fit_edges_words.proofs.hold.pos_holds.Goals as goal

pub returns : goal.returns
returns c =
    let w = c in
    let s = w in
    c.is_inside.ensures
    ∙ ap (within most_pos) (kept w32 w.read_word.result w.read_word.type_inv ∙ w.read_word.ensures
    ∙ sym (pos-in s.args.words.now Horizontal s.args.i s.requires.0 s.requires.1))
