-- What the steps of marking promise each other: the members of edges by walks along `next`.
use Rattle.std.specs.Prelude.{◌≡◌, true, List, ℕ, zero, suc, ◌<◌}
use Rattle.axis.specs.declared.edge.Axis.{Axis}
use Rattle.axis.specs.declared.segment.Segments.{Segments}
use Rattle.axis.specs.Edge.{edge_at}
use Rattle.axis.specs.Limits.{most_segments}
use Rattle.axis.specs.Ring.{walk, ends}
use Rattle.build_join.specs.Walks.{next_in}
use Rattle.build_mark.specs.Marks.{marks}

-- the members of the first n edges, by walks along `next`
unfoldable pub marked : List ℕ → Axis → ℕ → Segments → Segments
marked next axis zero t = t
marked next axis (suc k) t = marks next k (walk (next_in next) (edge_at axis k).last most_segments (edge_at axis k).first) (marked next axis k t)

-- each of these walks ends
pub record Ended (next : List ℕ) (axis : Axis) : Type 0 where
  pub starts : (k : ℕ) → k < axis.len → (edge_at axis k).first < most_segments
  pub stops : (k : ℕ) → k < axis.len → ends (next_in next) most_segments (edge_at axis k).last most_segments (edge_at axis k).first ≡ true
