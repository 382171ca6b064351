-- `refit::refit` is safe: what is held of a line lies within the list.
use Rattle.std.proofs.Common.{◌≡◌, ◌+◌, ◌≤◌, length}
use Rattle.log_frame.specs.Limits.{most_digits}
use Rattle.refit.proofs.refit.Given as goal

abbrev pub invariant-loop : goal.invariant-loop
invariant-loop g l = (length l.line ≡ most_digits + 1) × ((length l.out ≡ 65536) × (l.count ≤ length l.line))
