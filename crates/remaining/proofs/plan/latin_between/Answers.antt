-- `remaining::plan::latin_between` meets its contract.
use borrow.Author.Rules.{rules}
use mathlib.Core.Path.{◌∙◌}
use mir.Syntax.{w64}
use Rattle.signed.proofs.Signed.{is, got}
use Rattle.axis.specs.declared.kinds.Mark.TheVariants as Marks
use Rattle.place.proofs.Reach.{units-read, reach-read}
use Rattle.remaining.specs.declared.kinds.Way.TheVariants as Ways
use Rattle.remaining.specs.Plan.{between_pos}
use Rattle.remaining.proofs.plan.latin_between.Goals as goal

pub returns : goal.returns
returns c =
    let r = c.between_pos-pos in
    let s = c in
    let b = s.requires.0 in
    let a = s.requires.1 in
    λ i. record {
      pos = (is (got w64 r.result r.type_inv) ∙ r.ensures
          ∙ λ j. between_pos (units-read _ s.requires.2.opos j) (units-read _ b.opos j) (reach-read _ b.pos j) (units-read _ a.opos j)
          (reach-read _ a.pos j)) i;
      mark = Marks.Between;
      way = Ways.Held;
      next = s.args.past;
    }
