-- `words_shape::element::is_run` meets its contract.
use borrow.Author.Rules.{rules}
use mathlib.Core.Path.{sym, ◌∙◌}
use Rattle.words_shape.proofs.Shapes.{run_none, run_ends}
use Rattle.words_shape.proofs.element.is_run.Goals as goal

pub returns-in_default : goal.returns-in_default
returns-in_default c = let s = c in
    let a = s.args in
    sym (run_none a.n a.kind a.words.now (sym s.skip_elements.ensures ∙ c.in_default.is))

pub returns : goal.returns
returns c = let e = c in
    let s = e in
    let a = s.args in
    sym (run_ends a.n a.kind a.words.now e.in-Some.end (sym s.skip_elements.ensures ∙ e.in-Some.is))
