-- `remaining::plan::stays_plan` meets its contract.
use borrow.Author.Rules.{rules}
use mathlib.Core.Path.{◌∙◌}
use mir.Syntax.{w32, w64}
use Rattle.signed.proofs.Signed.{is, got}
use Rattle.axis.specs.declared.kinds.Mark.TheVariants as Marks
use Rattle.remaining.specs.declared.kinds.Way.TheVariants as Ways
use Rattle.remaining.proofs.plan.stays_plan.Goals as goal

pub returns : goal.returns
returns c =
    let told = c in
    let s = told in
    λ i. record {
      pos = (is (got w64 c.from.result c.from.type_inv) ∙ c.from.ensures ∙ is (got w32 s.args.edge.pos told.struct_told-1.given.1.1.0.1)) i;
      mark = Marks.Nothing;
      way = Ways.Stays;
      next = s.args.past;
    }
