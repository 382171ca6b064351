-- `remaining::plan::serif_plan` meets its contract.
use borrow.Author.Rules.{rules}
use mathlib.Core.Path.{ap, ◌∙◌}
use mir.Syntax.{w32, w64}
use Rattle.signed.proofs.Signed.{is, got}
use Rattle.axis.specs.declared.edge.Edge.{Edge}
use Rattle.axis.specs.declared.kinds.Mark.TheVariants as Marks
use Rattle.remaining.proofs.plan.serif_plan.Goals as goal

pub returns : goal.returns
returns c =
    let told = c in
    let edge = told in
    let s = edge in
    λ i. record {
      pos =
          (is (got w64 c.from.result c.from.type_inv) ∙ c.from.ensures ∙ is (got w32 _ told.struct_told-1.given.1.1.0.1)
          ∙ ap (λ (e : Edge). e.pos) edge.serif_edge-moved.ensures) i;
      mark = Marks.Serif;
      way = s.args.way;
      next = s.args.past;
    }
