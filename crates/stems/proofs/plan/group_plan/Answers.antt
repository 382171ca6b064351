-- `stems::plan::group_plan` meets its contract.
use mathlib.Core.Path.{sym, ap, ◌∙◌}
use Rattle.axis.specs.declared.kinds.Group.{Group}
use Rattle.stems.specs.Plan.{group_plan}
use borrow.Author.Rules.{rules}
use Rattle.stems.proofs.plan.group_plan.Goals as goal

pub returns-in-Default : goal.returns-in-Default
unfolding group_plan
returns-in-Default c =
    let a = c.args in
    c.latin_plan.ensures ∙ ap (λ (g : Group). group_plan g a.mode a.standards.now a.edge a.edge2 a.base a.anchor a.is_before
    a.trail) (sym c.in-Default.is)

pub returns-in-Cjk : goal.returns-in-Cjk
unfolding group_plan
returns-in-Cjk c =
    let a = c.args in
    c.cjk_plan.ensures ∙ ap (λ (g : Group). group_plan g a.mode a.standards.now a.edge a.edge2 a.base a.anchor a.is_before a.trail)
    (sym c.in-Cjk.is)
