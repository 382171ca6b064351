-- `link_words::pair::other_word` meets its contract.
use mathlib.Core.Path.{◌∙◌}
use mir.Syntax.{w32}
use Rattle.signed.proofs.Signed.{is, got}
use borrow.Author.Rules.{rules}
use Rattle.link_words.proofs.pair.other_word.Goals as goal

pub returns-in-None : goal.returns-in-None
returns-in-None c = rw c.in-None.is

pub returns-in-Right : goal.returns-in-Right
returns-in-Right c = let t = c in rw t.in-Right.is (is (got w32 c.direction_word.result c.direction_word.type_inv) ∙ c.direction_word.ensures)

pub returns-in-Left : goal.returns-in-Left
returns-in-Left c =
    let t = c in rw t.in-Left.is (is (got w32 c.direction_word-in-Left.result c.direction_word-in-Left.type_inv) ∙ c.direction_word-in-Left.ensures)

pub returns-in-Up : goal.returns-in-Up
returns-in-Up c =
    let t = c in rw t.in-Up.is (is (got w32 c.direction_word-in-Up.result c.direction_word-in-Up.type_inv) ∙ c.direction_word-in-Up.ensures)

pub returns-in-Down : goal.returns-in-Down
returns-in-Down c =
    let t = c in rw t.in-Down.is (is (got w32 c.direction_word-in-Down.result c.direction_word-in-Down.type_inv) ∙ c.direction_word-in-Down.ensures)
