-- Edges within reach: what an axis gives of them, how their numbers are read back, and how far a width takes them.
use mathlib.Core.Path.{◌≡◌}
use mathlib.Core.Bool.{true}
use mathlib.Core.List.{List}
use Prim.Native.Nat.{ℕ, ◌<◌, ◌≤◌}
use native.Mathlib.Omega.{arith}
use borrow.Author.Tests.{ltb-true}
use lib.Dec.{ltb}
use lib.IntN.{ℤ, ◌-ℤ◌}
use mir.Syntax.{w32}
use mir.Val.{to_z, of_z}
use Rattle.signed.specs.Range.{Between}
use Rattle.signed.proofs.Signed.{nat_abs-is, one-zero, sub-law, fits-in, is}
use Rattle.refusals.proofs.Tests.{and_first, and_second}
use Rattle.fixed.specs.declared.width.WidthRule.{WidthRule}
use Rattle.fixed.specs.Width.{fitted_width}
use Rattle.fixed.proofs.Widths.{fitted-most}
use Rattle.axis.specs.declared.edge.Axis.{Axis}
use Rattle.axis.specs.Edge.{edge_at}
use Rattle.axis.specs.Limits.{most_edges, most_units}
use Rattle.axis.specs.Accepted.{AxisWithin}
use Rattle.place.specs.Placing.{both_below}
use Rattle.place.specs.Steps.{most_width, most_reach, InReach}

-- two edges that passed the test are below the count
pub below-first : (n i j : ℕ) → both_below n i j ≡ true → i < n
below-first n i j h = ltb-true i n (and_first (ltb i n) (ltb j n) h)

pub below-second : (n i j : ℕ) → both_below n i j ≡ true → j < n
below-second n i j h = ltb-true j n (and_second (ltb i n) (ltb j n) h)

-- an edge of an axis, and so of the working table
pub in_table : (m i : ℕ) (axis : Axis) → AxisWithin m axis → i < axis.len → i < most_edges
in_table m i axis h q = omega (arith, h.few)

-- an edge of an axis within less than the reach
pub in_reach : (m i : ℕ) (axis : Axis) → m ≤ most_reach → AxisWithin m axis → i < axis.len → InReach (edge_at axis i)
in_reach m i axis w h q = let e = h.edge i q in let p = e.pos in record { opos = e.opos; pos = omega arith }

-- a number within its limit is read back from its bits
pub units-read : (z : ℤ) → Between most_units most_units z → to_z w32 (of_z w32 z) ≡ z
units-read z h = is (fits-in w32 h tt tt)

pub reach-read : (z : ℤ) → Between most_reach most_reach z → to_z w32 (of_z w32 z) ≡ z
reach-read z h = is (fits-in w32 h tt tt)

-- a fitted width is at most 16 more than the largest distance of two original positions
pub width-range : (rule : WidthRule) (xs : List ℤ) (o s : ℤ)
    → Between most_units most_units o → Between most_units most_units s → Between most_width most_width (fitted_width rule xs (s -ℤ o))
width-range rule xs o s h g =
    let w = s -ℤ o in
    let r = fitted_width rule xs w in
    omega (arith, fitted-most rule xs w, nat_abs-is w, nat_abs-is r, one-zero w, sub-law s o)
