-- `remaining::plan::cjk_between` meets its contract.
use borrow.Author.Rules.{rules}
use mathlib.Core.Path.{◌∙◌}
use mir.Syntax.{w32, w64}
use Rattle.signed.proofs.Signed.{is, got}
use Rattle.axis.specs.declared.kinds.Mark.TheVariants as Marks
use Rattle.place.proofs.Reach.{reach-read}
use Rattle.remaining.specs.declared.kinds.Way.TheVariants as Ways
use Rattle.remaining.specs.Plan.{between_pos}
use Rattle.remaining.proofs.plan.cjk_between.Goals as goal

pub returns : goal.returns
returns c =
    let r = c.between_pos-pos in
    let f3 = c in
    let f2 = f3 in
    let f1 = f2 in
    let s = f1 in
    λ i. record {
      pos = (is (got w64 r.result r.type_inv) ∙ r.ensures
          ∙ λ j. between_pos ((is (got w32 f1.font_pos-at.result f1.font_pos-at.type_inv) ∙ f1.font_pos-at.ensures.0) j)
          ((is (got w32 f2.font_pos-before_at.result f2.font_pos-before_at.type_inv) ∙ f2.font_pos-before_at.ensures.0) j) (reach-read _ s.requires.0.pos j)
          ((is (got w32 f3.font_pos-after_at.result f3.font_pos-after_at.type_inv) ∙ f3.font_pos-after_at.ensures.0) j) (reach-read _ s.requires.1.pos j)) i;
      mark = Marks.Between;
      way = Ways.Placed;
      next = s.args.past;
    }
