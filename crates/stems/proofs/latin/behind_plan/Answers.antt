-- `stems::latin::behind_plan` meets its contract.
use native.Mathlib.Omega.{arith}
use mir.Syntax.{w32}
use Rattle.signed.proofs.Signed.{fits, fits-in, is, signed}
use Rattle.place.proofs.Reach.{reach-read}
use Rattle.stems.proofs.latin.behind_plan.Goals as goal

pub overflow_sub-result : goal.overflow_sub-result
overflow_sub-result c = let s = c.before.before in let k = fits-in w32 s.requires.0.pos tt tt in fits (omega (arith, signed))

pub returns : goal.returns
returns c = let s = c.before.before in rw (is (overflow_sub-result c), reach-read _ s.requires.0.pos, is s.ranges.width)
