-- `link::gap::times` meets its contract: the product of a number within the table and a small one fits 32 bits.
use mathlib.Core.Path.{◌∙◌}
use lib.IntN.{◌*ℤ◌}
use Rattle.signed.proofs.Signed.{is}
use Rattle.link.proofs.Ranges.{product-fits}
use Rattle.link.proofs.gap.times.Goals as goal

pub overflow_mul-result : goal.overflow_mul-result
overflow_mul-result c = rw (is c.ranges.x, is c.ranges.k) (product-fits c.args.x c.args.k c.requires.between c.requires.between_2)

pub returns : goal.returns
returns c = is (overflow_mul-result c) ∙ λ i. is c.ranges.x i *ℤ is c.ranges.k i
