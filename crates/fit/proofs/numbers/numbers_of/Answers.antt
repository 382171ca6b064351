-- `fit::numbers::numbers_of` meets its contract.
use mathlib.Core.Path.{ap, ◌∙◌}
use mir.Syntax.{w32}
use Rattle.words.specs.Field.{dimension_of, group_of, rule_of}
use Rattle.words.proofs.Fields.{kept}
use borrow.Author.Rules.{rules}
use Rattle.fit.proofs.numbers.numbers_of.Goals as goal

pub returns : goal.returns
returns c =
    let least = c in
    let m = least in
    let alone = m in
    let snap = alone in
    let adjust = snap in
    let rule = adjust in
    let r = rule.word_at-3 in
    let group = rule in
    let g = group.word_at-2 in
    let dim = group in
    let d = dim.word_at in
    let l = least.word_at-4 in
    λ i. record {
      dim = (dim.dimension_of-dim.ensures ∙ ap dimension_of (kept w32 d.result d.type_inv ∙ d.ensures)) i;
      group = (group.group_of-group.ensures ∙ ap group_of (kept w32 g.result g.type_inv ∙ g.ensures)) i;
      stem_adjust = adjust.choice_at.ensures i;
      snap = snap.choice_at-2.ensures i;
      alone = alone.choice_at-3.ensures i;
      rule = (rule.rule_of-rule.ensures ∙ ap rule_of (kept w32 r.result r.type_inv ∙ r.ensures)) i;
      lowercase_m = m.choice_at-4.ensures i;
      least = (kept w32 l.result l.type_inv ∙ l.ensures) i;
      linked = c.choice_at-5.ensures i;
    }
