-- `words_edge_test::hold::links_to` meets its contract.
use mathlib.Core.Path.{ap, ◌∙◌}
use native.Mathlib.Omega.{arith}
use lib.IntN.{ℤ, pos, negsuc, ◌-ℤ◌}
use mir.Syntax.{w32}
use Rattle.signed.proofs.Signed.{is, fits, signed, read_low}
use borrow.Author.Rules.{rules}
use Rattle.words_edge_test.proofs.hold.links_to.Goals as goal

pub overflow_cast-last : goal.overflow_cast-last
overflow_cast-last c = search rules

pub overflow_sub-last : goal.overflow_sub-last
overflow_sub-last c = let k = overflow_cast-last c in fits (omega (arith, signed))

pub returns : goal.returns
returns c = λ i. record { low = negsuc 0; high = (is (overflow_sub-last c.before) ∙ ap (λ (z : ℤ). z -ℤ pos 1) (read_low w32 c.args.n (omega (arith, c.requires)))) i }
