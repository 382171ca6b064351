-- `words::word::word_at` meets its contract.
use mathlib.Core.Path.{sym}
use lib.ListN.{get_or-eq_default}
use lib.IntN.{pos}
use Rattle.words.proofs.word.word_at.Goals as goal

pub returns : goal.returns
returns c = let a = c.args in sym (get_or-eq_default a.words.now (pos 0) c.if-i-words.false)
