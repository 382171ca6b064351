-- `label_print::print::in_128ths` is safe: the two tests are what the call asks, once the bit patterns are read as numbers.
use Rattle.std.proofs.Common.{T, sym, subst}
use lib.Ieee.{of_bits, neg}
use Rattle.label_print.proofs.print.in_128ths.Goals as goal

pub truncating_f32_to_u64-requires-clause-lower_bound : goal.truncating_f32_to_u64-requires-clause-lower_bound
unfolding of_bits neg
truncating_f32_to_u64-requires-clause-lower_bound c = subst T (sym c.if-n.true) tt

pub truncating_f32_to_u64-requires-clause-upper_bound : goal.truncating_f32_to_u64-requires-clause-upper_bound
unfolding of_bits neg
truncating_f32_to_u64-requires-clause-upper_bound c = subst T (sym c.if-n-2.true) tt
