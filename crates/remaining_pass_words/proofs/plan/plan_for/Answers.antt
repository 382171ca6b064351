-- `remaining_pass_words::plan::plan_for` meets its contract.
use mathlib.Core.Path.{sym, ap, ◌∙◌}
use Rattle.words_call.specs.Lent.{edges_of}
use Rattle.remaining.specs.declared.kinds.Round.{Round}
use Rattle.remaining.specs.Remaining.{plan_of}
use borrow.Author.Rules.{rules}
use Rattle.remaining_pass_words.proofs.plan.plan_for.Goals as goal

pub returns-in-Latin : goal.returns-in-Latin
unfolding plan_of
returns-in-Latin c =
    let a = c.args in
    c.latin_plan.ensures ∙ sym (ap (λ (r : Round). plan_of r (edges_of a.words.now) a.past a.i) c.in-Latin.is)

pub returns-in-Serifs : goal.returns-in-Serifs
unfolding plan_of
returns-in-Serifs c =
    let a = c.args in
    c.serifs_plan.ensures ∙ sym (ap (λ (r : Round). plan_of r (edges_of a.words.now) a.past a.i) c.in-Serifs.is)

pub returns-in-Others : goal.returns-in-Others
unfolding plan_of
returns-in-Others c =
    let a = c.args in
    c.others_plan.ensures ∙ sym (ap (λ (r : Round). plan_of r (edges_of a.words.now) a.past a.i) c.in-Others.is)
