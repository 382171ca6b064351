-- `words_segment_test::exact::every_segment` meets its contract.
use mathlib.Core.Path.{◌≡◌, sym}
use mathlib.Core.Bool.{true}
use Prim.Native.Nat.{ℕ, ◌≤◌, ◌-◌, min}
use native.Mathlib.Omega.{arith}
use borrow.Author.Rules.{rules}
use borrow.Author.Tests.{not-true, not-false}
use Rattle.axis.specs.Segment.{segment_at}
use Rattle.axis.specs.Limits.{most_segments}
use Rattle.axis.specs.Refusals.{every, segment_passes}
use Rattle.axis.proofs.Tests.{every-none, every_more, every-fails, every-done}
use Rattle.words.specs.Segment.{segments_in, segments_run, flat_segments}
use Rattle.words_segment_test.proofs.Refusals.{segment-tested}
use Rattle.words_segment_test.proofs.exact.every_segment.Given as goal

abbrev pub invariant-loop-i : goal.invariant-loop-i
invariant-loop-i l = (l.i ≤ l.n) × (l.n ≡ min (segments_in l.words) most_segments) × (every (λ (k : ℕ). segment_passes l.test (segment_at (flat_segments l.words) k)) l.i ≡ true)

abbrev pub decreases-loop-i : goal.decreases-loop-i
decreases-loop-i l = l.n - l.i
