-- `place_words::bounds::upper_in` meets its contract.
use Rattle.place_words.proofs.Upper.{upper-none, upper-read}
use borrow.Author.Rules.{rules}
use Rattle.place_words.proofs.bounds.upper_in.Goals as goal

pub returns-then-words-next : goal.returns-then-words-next
returns-then-words-next c = upper-none c.args.words.now c.args.edge c.if-words-next.true

pub returns-then-behind : goal.returns-then-behind
returns-then-behind c = upper-read c.args.words.now c.args.edge c.read_edge-behind.result _ c.if-words-next.false c.read_edge-behind.ensures c.if-behind.true

pub returns : goal.returns
returns c = upper-read c.args.words.now c.args.edge c.read_edge-behind.result _ c.if-words-next.false c.read_edge-behind.ensures c.if-behind.false
