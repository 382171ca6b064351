-- `stems::plan::plan_for` meets its contract.
use mathlib.Core.Path.{sym, ◌∙◌}
use Rattle.stems.proofs.Fallback.{by-link, by-group}
use borrow.Author.Rules.{rules}
use Rattle.stems.proofs.plan.plan_for.Goals as goal

pub returns-then-falls_back : goal.returns-then-falls_back
returns-then-falls_back c =
    let t = c in
    let s = t in
    let a = s.args in
    c.linked_plan.ensures
    ∙ by-link a.mode a.standards.now a.edge a.edge2 a.base a.anchor a.is_before a.trail a.fallback a.edge2.blue
    (sym t.falls_back.ensures ∙ t.if-falls_back.true)

pub returns : goal.returns
returns c =
    let t = c in
    let s = t in
    let a = s.args in
    c.group_plan.ensures
    ∙ by-group a.mode a.standards.now a.edge a.edge2 a.base a.anchor a.is_before a.trail a.fallback a.edge2.blue
    s.requires.bare_without.bare
    (sym t.falls_back.ensures ∙ t.if-falls_back.false)
