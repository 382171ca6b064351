-- The turns of the pass: what holds before each visit, and that a visit keeps it.
use Rattle.std.specs.Prelude.{None}
use mathlib.Core.Path.{◌≡◌}
use mathlib.Core.List.{List}
use Prim.Native.Nat.{ℕ, ◌+◌, ◌*◌, ◌-◌, ◌≤◌, ◌<◌}
use native.Mathlib.Omega.{arith}
use lib.IntN.{ℤ}
use Rattle.fixed.specs.declared.width.WidthRule.{WidthRule}
use Rattle.axis.specs.Link.{Link}
use Rattle.axis.specs.declared.edge.Axis.{Axis}
use Rattle.axis.specs.Limits.{most_edges, most_pos}
use Rattle.axis.specs.Accepted.{AxisWithin}
use Rattle.axis.specs.Visits.{visits}
use Rattle.axis.proofs.Visits.{turn}
use Rattle.place.specs.Steps.{most_width}
use Rattle.zones.specs.Steps.{step}
use Rattle.zones.proofs.Kept.{within_more}
use Rattle.zones.specs.Pass.{state_of}

-- what positions can have come to after i visits
abbrev pub grown : ℕ → ℕ
grown i = most_pos + i * most_width

-- before the visit of edge i of n, the axis is within its bound, and what is left to do gives the whole pass's result
pub record Going (rule : WidthRule) (xs : List ℤ) (n i : ℕ) (axis₀ axis : Axis) (anchor : Link) : Type 0 where
  pub reached : i ≤ n
  pub few : n ≤ most_edges
  pub count : axis.len ≡ n
  pub within : AxisWithin (grown i) axis
  pub left : visits (step rule xs) (n - i) i (state_of axis anchor) ≡ visits (step rule xs) n 0 (state_of axis₀ None)

-- a visit that came to an axis within a fitted width more
pub goes_on : {rule : WidthRule} {xs : List ℤ} {n i : ℕ} {axis₀ axis axis' : Axis} {anchor anchor' : Link}
    → Going rule xs n i axis₀ axis anchor
    → i < n
    → axis'.len ≡ n
    → AxisWithin (grown i + most_width) axis'
    → step rule xs (state_of axis anchor) i ≡ state_of axis' anchor'
    → Going rule xs n (i + 1) axis₀ axis' anchor'
goes_on {rule} {xs} {n} {i} {axis₀} {axis} {axis'} {anchor} {anchor'} g h e w q = record {
  reached = omega arith;
  few = g.few;
  count = e;
  within = within_more (grown i + most_width) (grown (i + 1)) axis' (omega arith) w;
  left = turn (step rule xs) n i (state_of axis anchor) (state_of axis' anchor') _ h q g.left;
}

-- one that came to an axis within the same bound
pub wider : {m : ℕ} {axis : Axis} → AxisWithin m axis → AxisWithin (m + most_width) axis
wider {m} {axis} h = within_more m (m + most_width) axis (omega arith) h
