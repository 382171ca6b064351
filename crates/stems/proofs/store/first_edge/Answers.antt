-- `stems::store::first_edge` meets its contract.
use mathlib.Core.Path.{ap, ◌∙◌}
use lib.IntN.{ℤ}
use Rattle.axis.specs.Edge.{fixed_at}
use Rattle.stems.proofs.Ranges.{place_read}
use borrow.Author.Rules.{rules}
use Rattle.stems.proofs.store.first_edge.Goals as goal

pub returns : goal.returns
returns c =
    let s = c in
    c.fix_at.ensures ∙ ap (λ (p : ℤ). fixed_at s.args.edge p s.args.plan.mark) (place_read s.args.plan.first s.requires)
