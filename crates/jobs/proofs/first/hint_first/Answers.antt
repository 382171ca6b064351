-- `jobs::first::hint_first` meets its contract: the list that was lent comes back in front of what stood behind it.
use mathlib.Core.Path.{◌∙◌}
use lib.ListN.{drop}
use mathlib.Core.List.{◌++◌}
use Rattle.jobs.specs.First.{hint_first}
use Rattle.jobs.proofs.first.hint_first.Goals as goal

pub returns : goal.returns
unfolding hint_first
returns c =
    let answered = c.hint_lowercase_m.ensures in
    λ i. record { answer = (c.answer_of-answer.ensures ∙ answered.answer) i; edges = answered.edges i ++ drop c.args.n c.args.edges }
