-- `axis::accept::every_segment` meets its contract.
use mathlib.Core.Path.{◌≡◌, sym, ◌∙◌}
use mathlib.Core.Bool.{true}
use Prim.Native.Nat.{ℕ, ◌≤◌, ◌-◌, min}
use native.Mathlib.Omega.{arith}
use borrow.Author.Rules.{rules}
use borrow.Author.Tests.{not-true, not-false}
use Rattle.axis.specs.Limits.{most_segments}
use Rattle.axis.specs.Segment.{segment_at}
use Rattle.axis.specs.Refusals.{every, segment_passes}
use Rattle.axis.proofs.Tests.{every-none, every_more, every-fails, every-done}
use Rattle.axis.proofs.accept.every_segment.Given as goal

abbrev pub invariant-loop-i : goal.invariant-loop-i
invariant-loop-i l = (l.i ≤ l.n) × (l.n ≡ min l.table.len most_segments) × (every (λ (k : ℕ). segment_passes l.test (segment_at l.table k)) l.i ≡ true)

abbrev pub decreases-loop-i : goal.decreases-loop-i
decreases-loop-i l = l.n - l.i
