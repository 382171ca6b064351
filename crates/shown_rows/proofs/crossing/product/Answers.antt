-- `shown_rows::crossing::product` meets its contract.
use mathlib.Core.Path.{sym}
use native.Mathlib.Omega.{arith}
use Rattle.shown_rows.proofs.Ceilings.{Halves, halves}
use Rattle.shown_rows.proofs.crossing.product.Goals as goal
use Rattle.shown_rows.proofs.crossing.product.Goals.{Start}

-- the factors' halves
parts : (c : Start) → Halves c.args.x c.args.y
parts c = halves c.args.x c.args.y c.requires.0 c.requires.1

pub overflow_mul-high : goal.overflow_mul-high
overflow_mul-high c = omega (arith, (parts c).high, (parts c).left, (parts c).right, (parts c).low)

pub overflow_mul-middle : goal.overflow_mul-middle
overflow_mul-middle c = omega (arith, (parts c).high, (parts c).left, (parts c).right, (parts c).low)

pub overflow_mul-middle-2 : goal.overflow_mul-middle-2
overflow_mul-middle-2 c = omega (arith, (parts c).high, (parts c).left, (parts c).right, (parts c).low)

pub overflow_add-middle : goal.overflow_add-middle
overflow_add-middle c = omega (arith, (parts c).high, (parts c).left, (parts c).right, (parts c).low)

pub overflow_mul-low : goal.overflow_mul-low
overflow_mul-low c = omega (arith, (parts c).high, (parts c).left, (parts c).right, (parts c).low)

pub overflow_cast-result : goal.overflow_cast-result
overflow_cast-result c = omega (arith, (parts c).high, (parts c).left, (parts c).right, (parts c).low)

pub overflow_mul-result : goal.overflow_mul-result
overflow_mul-result c = omega (arith, (parts c).high, (parts c).left, (parts c).right, (parts c).low)

pub overflow_cast-result-2 : goal.overflow_cast-result-2
overflow_cast-result-2 c = omega (arith, (parts c).high, (parts c).left, (parts c).right, (parts c).low)

pub overflow_mul-result-2 : goal.overflow_mul-result-2
overflow_mul-result-2 c = omega (arith, (parts c).high, (parts c).left, (parts c).right, (parts c).low)

pub overflow_add-result : goal.overflow_add-result
overflow_add-result c = omega (arith, (parts c).high, (parts c).left, (parts c).right, (parts c).low)

pub overflow_cast-result-3 : goal.overflow_cast-result-3
overflow_cast-result-3 c = omega (arith, (parts c).high, (parts c).left, (parts c).right, (parts c).low)

pub overflow_add-result-2 : goal.overflow_add-result-2
overflow_add-result-2 c = omega (arith, (parts c).high, (parts c).left, (parts c).right, (parts c).low)

pub returns : goal.returns
returns c = sym (parts c).whole
