-- `remaining_pass_words::find::is_done` meets its contract.
use mathlib.Core.Path.{ap}
use Rattle.axis.specs.declared.edge.Edge.{Edge}
use borrow.Author.Rules.{rules}
use Rattle.remaining_pass_words.proofs.find.is_done.Goals as goal

pub returns : goal.returns
returns c = ap (λ (e : Edge). e.flags.done) c.read_edge-edge.ensures
