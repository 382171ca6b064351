-- `remaining::plan::anchor_plan` meets its contract.
use borrow.Author.Rules.{rules}
use native.Mathlib.Omega.{arith}
use mathlib.Core.Path.{ap, ◌∙◌}
use mir.Syntax.{w32, w64}
use Rattle.signed.proofs.Signed.{is, got}
use Rattle.fixed.specs.Pixel.{pix_round}
use Rattle.axis.specs.declared.kinds.Mark.TheVariants as Marks
use Rattle.place.proofs.Reach.{units-read}
use Rattle.remaining.specs.declared.kinds.Way.TheVariants as Ways
use Rattle.remaining.specs.Plan.{anchored_at}
use Rattle.remaining.proofs.plan.anchor_plan.Goals as goal

pub pix_round-pos-requires : goal.pix_round-pos-requires
pix_round-pos-requires c = let h = c.requires.0.opos in rw (units-read _ h) (omega (arith, h))

pub returns : goal.returns
returns c =
    let r = c in
    let s = r in
    λ i. record {
      pos = (is (got w64 c.from.result c.from.type_inv) ∙ c.from.ensures ∙ is (got w32 r.pix_round-pos.result r.pix_round-pos.type_inv) ∙ r.pix_round-pos.ensures
          ∙ ap pix_round (units-read _ s.requires.0.opos)) i;
      mark = Marks.RemainingAnchor;
      way = Ways.Held;
      next = anchored_at s.args.past s.args.i;
    }
