-- Edge points and weak points behind the chain: edges that were built, whatever was changed of them but their original positions, leave points in order and
-- apart where the guard finds nothing.
use mathlib.Core.Path.{◌≡◌}
use mathlib.Core.Bool.{Bool, false}
use mathlib.Core.List.{List}
use Prim.Native.Nat.{ℕ}
use lib.IntN.{ℤ, pos}
use Rattle.axis.specs.declared.edge.Axis.{Axis}
use Rattle.axis.specs.declared.kinds.Group.{Group}
use Rattle.axis.specs.declared.segment.Segments.{Segments}
use Rattle.build.specs.declared.numbers.Thresholds.{Thresholds}
use Rattle.build.specs.Building.{compute_edges}
use Rattle.gaps.specs.Gaps.{lost_gaps, SameOpos}
use Rattle.gaps.proofs.Order.{done-rise, rise-kept}
use Rattle.weak.specs.Weak.{Outcome}
use Rattle.edge_points.specs.EdgePoints.{Points, edge_answer, edge_result}
use Rattle.edge_points_order.specs.Order.{EdgesApart, Ready, Gained, PointsApart}
use Rattle.edge_points_order.proofs.Chain.{chain, chain-apart}
use Rattle.edge_points_order.proofs.Edges.{guarded-apart, apart_in_order}
use Rattle.chain.proofs.Guard.{built-rise}

module _ (t : Segments) (old : Axis) (group : Group) (ttb : Bool) (scale : ℤ) (by : Thresholds) (e : (compute_edges t old group ttb scale by).answer ≡ 0)
    (new : Axis) (kept : SameOpos (compute_edges t old group ttb scale by).axis new)
    (answer : (lost_gaps new (pos 0) false).answer ≡ 0) (gaps : (lost_gaps new (pos 0) false).count ≡ 0) (stems : (lost_gaps new (pos 0) false).stems ≡ 0) where
  -- the edges are apart
  pub built-apart : EdgesApart new
  built-apart = guarded-apart new (done-rise new (rise-kept _ new kept (built-rise t old group ttb scale by e))) answer gaps stems

  -- and so are points, where both calls answer 0
  module _ (snap alone : Bool) (ss : Segments) (o : List ℤ) (s : Points) (es : List ℕ) (ready : Ready snap alone new ss o s es)
      (yes : edge_answer alone new ss s es ≡ 0)
      (d : List ℤ) (outcome : Outcome o (edge_result snap alone new ss s es).currents (edge_result snap alone new ss s es).touched es 0 d) where
    pub points-gained : Gained new o (edge_result snap alone new ss s es).currents (edge_result snap alone new ss s es).touched es d
    points-gained = chain snap alone new ss o s es ready yes d outcome (apart_in_order new built-apart)

    pub points-apart : PointsApart o (edge_result snap alone new ss s es).currents (edge_result snap alone new ss s es).touched es d
    points-apart = chain-apart snap alone new ss o s es ready yes d outcome built-apart
