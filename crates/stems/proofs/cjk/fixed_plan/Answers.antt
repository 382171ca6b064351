-- `stems::cjk::fixed_plan` meets its contract.
use Rattle.std.specs.Prelude.{Some}
use mathlib.Core.Bool.{true, false}
use Rattle.signed.proofs.Signed.{is}
use Rattle.axis.specs.declared.kinds.Mark.TheVariants.{Stem}
use Rattle.stems.specs.declared.kinds.Second.TheVariants.{Fixed}
use Rattle.stems.proofs.cjk.fixed_plan.Goals as goal

pub returns : goal.returns
returns c = let f = c.ranges in λ i. record {
  first = is f.first i;
  mark = Stem;
  second = Fixed (is f.second i);
  bounded = false;
  anchors = true;
  trail = record { last = Some (is f.second i); delta = is f.delta i };
}
