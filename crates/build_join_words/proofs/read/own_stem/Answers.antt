-- `build_join_words::read::own_stem` meets its contract: by the group.
use mathlib.Core.Path.{sym, ap, ◌∙◌}
use mathlib.Core.Bool.{Bool}
use mir.Syntax.{w32}
use Rattle.words.proofs.Fields.{kept}
use Rattle.build_join_words.specs.Reading.{own_stem}
use borrow.Author.Rules.{rules}
use Rattle.build_join_words.proofs.read.own_stem.Goals as goal

pub returns-then-cjk : goal.returns-then-cjk
returns-then-cjk c =
    let g = c.args in
    kept w32 c.read_stem.result c.read_stem.type_inv ∙ c.read_stem.ensures
    ∙ ap (λ (b : Bool). own_stem g.words.now b g.i) (sym c.if-cjk.true)

pub returns : goal.returns
returns c = let g = c.args in ap (λ (b : Bool). own_stem g.words.now b g.i) (sym c.if-cjk.false)
