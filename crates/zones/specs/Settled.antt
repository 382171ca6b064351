-- Request #108: the edges that the fallback of the stem pass is for, those whose link has a zone, and an axis that has none of them.
use Rattle.std.specs.Prelude.{None, Some}
use Rattle.std.specs.Prelude.{◌≡◌, false, ℕ, ◌<◌}
use Rattle.axis.specs.declared.edge.Axis.{Axis}
use Rattle.axis.specs.Edge.{edge_at}

-- each of the first n edges is done, or has no link, or its link has no zone
pub record Settled (n : ℕ) (axis : Axis) : Type 0 where
  pub bare : (i k : ℕ) → i < n → (edge_at axis i).flags.done ≡ false → (edge_at axis i).link ≡ Some k → (edge_at axis k).blue ≡ None
