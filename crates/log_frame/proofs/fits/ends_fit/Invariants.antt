-- `log_frame::fits::ends_fit` meets its contract. The invariant: the ends fit where those that are left do.
use mathlib.Core.Path.{◌≡◌}
use lib.ListN.{drop}
use Rattle.log_frame.specs.Write.{ends_fit}
use Rattle.log_frame.proofs.fits.ends_fit.Given as goal

abbrev pub invariant-loop-end : goal.invariant-loop-end
invariant-loop-end l = ends_fit l.ends ≡ ends_fit (drop l.end-index l.ends)
