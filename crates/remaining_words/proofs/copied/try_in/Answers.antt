-- `remaining_words::copied::try_in` meets its contract.
use mathlib.Core.Path.{sym, ap, ◌∙◌}
use lib.ListN.{length}
use Rattle.remaining_words.proofs.Trying.{copy-ready, tried-stays, tried-goes}
use borrow.Author.Rules.{rules}
use Rattle.remaining_words.proofs.copied.try_in.Goals as goal

pub copy-requires : goal.copy-requires
copy-requires c = c.requires.1

pub pass_in-past-requires : goal.pass_in-past-requires
pass_in-past-requires c = copy-ready c.args.start c.requires.0 c.copy.ensures

pub shape_of-room-then-past : goal.shape_of-room-then-past
shape_of-room-then-past c = c.pass_in-past.ensures.long ∙ ap length c.copy.ensures ∙ sym c.requires.1

pub returns-then-past : goal.returns-then-past
returns-then-past c = tried-stays c.args.group c.args.start c.copy.ensures c.pass_in-past.ensures c.if-past.true

pub copy-requires-2 : goal.copy-requires-2
copy-requires-2 c = sym (c.pass_in-past.ensures.long ∙ ap length c.copy.ensures)

pub shape_of-words : goal.shape_of-words
shape_of-words c = ap length c.copy-2.ensures ∙ c.pass_in-past.ensures.long ∙ ap length c.copy.ensures

pub shape_of-room : goal.shape_of-room
shape_of-room c = c.pass_in-past.ensures.long ∙ ap length c.copy.ensures ∙ sym c.requires.1

pub returns : goal.returns
returns c = tried-goes c.args.group c.args.start c.copy.ensures c.pass_in-past.ensures c.if-past.false c.copy-2.ensures
