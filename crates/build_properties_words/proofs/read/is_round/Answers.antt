-- `build_properties_words::read::is_round` meets its contract.
use mathlib.Core.Path.{ap, ◌∙◌}
use mir.Syntax.{w32}
use Rattle.axis.specs.declared.flags.Flags.{Flags}
use Rattle.words.specs.Field.{flags_of}
use Rattle.words.specs.Segment.{segment_from}
use Rattle.words.proofs.Fields.{kept}
use borrow.Author.Rules.{rules}
use Rattle.build_properties_words.proofs.read.is_round.Goals as goal

pub returns : goal.returns
unfolding segment_from
returns c = let w = c.read_word in ap (λ (f : Flags). f.round) (c.flags_of-flags.ensures ∙ ap flags_of (kept w32 w.result w.type_inv ∙ w.ensures))
