-- `words::field::choice_of` meets its contract.
use Rattle.words.specs.Field.{choice_of}
use Rattle.words.proofs.Fields.{choice-is}
use Rattle.words.proofs.field.choice_of.Goals as goal

pub returns : goal.returns
unfolding choice_of
returns c = choice-is c.args.word c.ranges.word
