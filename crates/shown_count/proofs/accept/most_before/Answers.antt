-- `shown_count::accept::most_before` meets its contract.
use native.Mathlib.Nat.{div-le_self}
use native.Mathlib.Omega.{arith}
use Rattle.signed.proofs.Signed.{signed, fits, is}
use Rattle.weak_contour.specs.Limits.{most_coordinate}
use Rattle.shown_count.proofs.accept.most_before.Goals as goal

pub overflow_cast-result-2 : goal.overflow_cast-result-2
overflow_cast-result-2 c = fits (omega (arith, signed, div-le_self most_coordinate c.args.times))

pub returns : goal.returns
returns c = is (overflow_cast-result-2 c)
