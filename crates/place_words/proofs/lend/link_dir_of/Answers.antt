-- `place_words::lend::link_dir_of` meets its contract.
use borrow.Author.Rules.{rules}
use mathlib.Core.Path.{◌≡◌, sym, ap, ◌∙◌}
use mathlib.Core.Bool.{Bool, cond}
use Rattle.signed.proofs.Signed.{is}
use Rattle.place.specs.declared.adjust.LinkDir.TheVariants.{Prev, Next}
use Rattle.words.specs.Field.{choice_of}
use Rattle.place_words.specs.Lent.{link_dir_of}
use Rattle.place_words.proofs.lend.link_dir_of.Goals as goal

pub returns-then-choice_of : goal.returns-then-choice_of
unfolding link_dir_of
returns-then-choice_of c =
    let chosen : c.choice_of.result ≡ choice_of c.args.word = c.choice_of.ensures ∙ ap choice_of (is c.ranges.word) in
    ap (λ (b : Bool). cond b Next Prev) (sym c.if-choice_of.true ∙ chosen)

pub returns : goal.returns
unfolding link_dir_of
returns c =
    let chosen : c.choice_of.result ≡ choice_of c.args.word = c.choice_of.ensures ∙ ap choice_of (is c.ranges.word) in
    ap (λ (b : Bool). cond b Next Prev) (sym c.if-choice_of.false ∙ chosen)
