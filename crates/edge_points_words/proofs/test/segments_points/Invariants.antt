-- `edge_points_words::test::segments_points` meets its contract.
use borrow.Author.Tests.{not-true, not-false}
use native.Mathlib.Omega.{arith}
use mathlib.Core.Path.{◌≡◌, sym, ◌∙◌}
use mathlib.Core.Bool.{true}
use Prim.Native.Nat.{ℕ, ◌-◌, ◌≤◌}
use Rattle.axis.specs.Refusals.{every}
use Rattle.axis.specs.Segment.{segment_at}
use Rattle.axis.proofs.Tests.{every-none, every_more, every-fails, every-done}
use Rattle.words.specs.Segment.{segments_in, flat_segments}
use Rattle.words_segment.proofs.Wholes.{segments-len}
use Rattle.edge_points.specs.EdgePoints.{segment_points, segments_points}
use Rattle.words_tables_test.proofs.Tables.{tested-segment}
use Rattle.edge_points_words.proofs.test.segments_points.Given as goal

abbrev pub invariant-loop-i : goal.invariant-loop-i
invariant-loop-i l = (l.i ≤ segments_in l.segments) × (every (λ (k : ℕ). segment_points l.ends (segment_at (flat_segments l.segments) k) (segment_at (flat_segments l.segments) k).edge) l.i
    ≡ true)

abbrev pub decreases-loop-i : goal.decreases-loop-i
decreases-loop-i l = l.n - l.i
