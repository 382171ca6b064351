-- `weak_catalogue::counts::adds_up` meets its contract. The invariant: the counts add up to the length where those that are left add up to what remains of it.
use native.Mathlib.Omega.{arith}
use mathlib.Core.Path.{sym, ap, ◌∙◌}
use lib.Dec.{eqb}
use Rattle.weak_catalogue.proofs.Adding.{total-none, adds-over, adds_on}
use Rattle.weak_catalogue.proofs.counts.adds_up.Goals as goal

pub returns-then-left-count : goal.returns-then-left-count
returns-then-left-count c = sym (c.loop-x.invariant ∙ adds-over c.loop-x.left c.args.counts.now c.loop-x.x-index c.from-count.result (omega arith) c.from-count.ensures
    (omega arith))

pub loop-x-preserved : goal.loop-x-preserved
loop-x-preserved c =
    c.loop-x.invariant ∙ adds_on c.loop-x.left c.args.counts.now c.loop-x.x-index c.from-count.result (omega arith)
    c.from-count.ensures (omega arith)

pub returns : goal.returns
returns c = sym (c.loop-x.invariant ∙ ap (eqb c.loop-x.left) (total-none c.args.counts.now c.loop-x.x-index (omega arith)))
