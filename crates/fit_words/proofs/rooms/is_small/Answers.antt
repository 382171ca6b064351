-- `fit_words::rooms::is_small` meets its contract.
use mathlib.Core.Path.{refl}
use borrow.Author.Tests.{leb-true}
use mathlib.Core.Bool.{false}
use Rattle.signed.proofs.Choices.{clash}
use borrow.Author.Rules.{rules}
use Rattle.fit_words.proofs.rooms.is_small.Goals as goal

pub returns-then-words-gt-FEW_WORDS : goal.returns-then-words-gt-FEW_WORDS
returns-then-words-gt-FEW_WORDS c t = absurd (clash false refl t)

pub returns : goal.returns
returns c t = record { edges = c.if-words-gt-FEW_WORDS.false; points = leb-true _ _ t }
