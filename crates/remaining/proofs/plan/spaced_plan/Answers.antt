-- `remaining::plan::spaced_plan` meets its contract.
use borrow.Author.Rules.{rules}
use mathlib.Core.Path.{◌∙◌}
use mir.Syntax.{w32, w64}
use Rattle.signed.proofs.Signed.{is, got}
use Rattle.axis.specs.declared.kinds.Mark.TheVariants as Marks
use Rattle.place.proofs.Reach.{units-read, reach-read}
use Rattle.remaining.specs.declared.kinds.Way.TheVariants as Ways
use Rattle.remaining.specs.Plan.{spaced_pos}
use Rattle.remaining.proofs.plan.spaced_plan.Goals as goal

pub returns : goal.returns
returns c =
    let r = c in
    let s = r in
    let a = s.requires.0 in
    λ i. record {
      pos = (is (got w64 c.from.result c.from.type_inv) ∙ c.from.ensures ∙ is (got w32 r.spaced_pos-pos.result r.spaced_pos-pos.type_inv) ∙ r.spaced_pos-pos.ensures
          ∙ λ j. spaced_pos (reach-read _ a.pos j) (units-read _ a.opos j) (units-read _ s.requires.1.opos j)) i;
      mark = Marks.Spaced;
      way = Ways.Held;
      next = s.args.past;
    }
