-- `log_frame::fits::ends_fit` meets its contract. The invariant: the ends fit where those that are left do.
use native.Mathlib.Omega.{arith}
use mathlib.Core.Path.{sym, ◌∙◌}
use Rattle.log_frame.proofs.Tested.{ends-stop, ends_on, ends-end}
use Rattle.log_frame.proofs.fits.ends_fit.Goals as goal

pub returns-then-from-gt-MOST_COUNTED : goal.returns-then-from-gt-MOST_COUNTED
returns-then-from-gt-MOST_COUNTED c = sym (c.loop-end.invariant ∙ ends-stop c.args.ends.now c.loop-end.end-index (omega arith) (omega arith))

pub loop-end-preserved : goal.loop-end-preserved
loop-end-preserved c = c.loop-end.invariant ∙ ends_on c.args.ends.now c.loop-end.end-index (omega arith) (omega arith)

pub returns : goal.returns
returns c = sym (c.loop-end.invariant ∙ ends-end c.args.ends.now c.loop-end.end-index (omega arith))
