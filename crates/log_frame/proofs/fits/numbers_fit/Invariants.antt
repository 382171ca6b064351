-- `log_frame::fits::numbers_fit` meets its contract. The invariant: the numbers fit where those that are left do.
use mathlib.Core.Path.{◌≡◌}
use lib.ListN.{drop}
use Rattle.log_frame.specs.Write.{numbers_fit}
use Rattle.log_frame.proofs.fits.numbers_fit.Given as goal

abbrev pub invariant-loop-number : goal.invariant-loop-number
invariant-loop-number l = numbers_fit l.list ≡ numbers_fit (drop l.number-index l.list)
