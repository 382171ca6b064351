-- A visit along one path: a plan, and three stores that may change nothing. `steps-are` shows that steps are visits.
use Rattle.std.specs.Prelude.{None, Some}
use Rattle.std.specs.Prelude.{◌≡◌, Bool, false, cond, List, ℕ, ◌-◌, ltb, ℤ}
use Rattle.axis.specs.Link.{Link}
use Rattle.axis.specs.declared.edge.Axis.{Axis}
use Rattle.axis.specs.Link.{index_or}
use Rattle.axis.specs.Edge.{edge_at, put_edge, fixed_at}
use Rattle.zones.specs.Settled.{Settled}
use Rattle.stems.specs.declared.kinds.Mode.{Mode}
use Rattle.stems.specs.declared.kinds.Plan.{Plan}
use Rattle.stems.specs.Visit.{too_close}
use Rattle.stems.specs.Plan.{plan_of, second_edge, held_edge, anchor_after}
use Rattle.stems.specs.Stems.{State, counted}

-- the plan for edge i, linked to edge k; without an anchor, its edge is not read
abbrev pub plan_at : Mode → List ℤ → State → ℕ → ℕ → Plan
plan_at m xs s i k = plan_of m xs (edge_at s.axis i) (edge_at s.axis k) (edge_at s.axis (index_or i s.anchor)) s.anchor (ltb k i) s.trail

-- edge i is placed for good, then edge k as it is then, and edge i as it is then is held to the previous edge
abbrev pub first_put : Plan → ℕ → Axis → Axis
first_put plan i axis = put_edge axis i (fixed_at (edge_at axis i) plan.first plan.mark)

abbrev pub second_put : Plan → ℕ → Axis → Axis
second_put plan k axis = put_edge axis k (second_edge (edge_at axis k) plan.second)

abbrev pub held_put : Plan → ℕ → ℕ → Axis → Axis
held_put plan i k axis = put_edge axis i (held_edge plan i (edge_at axis i) (edge_at axis (i - 1)) (edge_at axis k))

-- the state once a plan for edge i and its link k is carried out
unfoldable pub carried_out : State → ℕ → ℕ → Plan → State
carried_out s i k plan = record {
  axis = held_put plan i k (second_put plan k (first_put plan i s.axis));
  count = s.count;
  anchor = anchor_after plan s.anchor i;
  trail = plan.trail;
}

-- edge i by its link
unfoldable pub step_link : Mode → List ℤ → State → ℕ → Link → State
step_link m xs s i None = counted s
step_link m xs s i (Some k) =
    cond (too_close m.group s.trail.last (edge_at s.axis i) (edge_at s.axis k)) (counted s) (carried_out s i k (plan_at m xs s i k))

-- the step of edge i
unfoldable pub step : Mode → List ℤ → State → ℕ → State
step m xs s i = cond (edge_at s.axis i).flags.done s (step_link m xs s i (edge_at s.axis i).link)

-- ---- the fallback, for an edge whose link has a zone
-- without it the first n edges are settled
pub record SettledWithout (fallback : Bool) (n : ℕ) (axis : Axis) : Type 0 where
  pub settled : fallback ≡ false → Settled n axis
