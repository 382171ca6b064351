-- The edges that bound an edge, and what it takes to adjust it.
use Rattle.std.specs.Prelude.{None, Some}
use mathlib.Core.Path.{◌≡◌, refl, ap}
use mathlib.Core.Bool.{Bool, true, false, ◌&&◌, cond}
use Prim.Native.Nat.{ℕ, zero, suc, ◌+◌, ◌-◌, ◌<◌}
use native.Mathlib.Omega.{arith}
use borrow.Author.Tests.{lt-ltb}
use lib.Dec.{ltb}
use Rattle.axis.specs.declared.edge.Axis.{Axis}
use Rattle.axis.specs.Edge.{edge_at}
use Rattle.axis.specs.Refusals.{link_holds}
use Rattle.axis.specs.Accepted.{Below}
use Rattle.axis.proofs.Acceptance.{link-below}
use Rattle.place.specs.declared.adjust.LinkDir.{LinkDir}
use Rattle.place.specs.declared.adjust.LinkDir.TheVariants.{Prev, Next}
use Rattle.place.specs.Placing.{lower_bound, upper_bound, neighbour, bound_by, adjusted}

-- ---- the edge before
pub lower-none : (i : ℕ) → i ≡ 0 → None ≡ lower_bound i
unfolding lower_bound
lower-none zero e = refl
lower-none (suc i) e = absurd (omega (arith, e))

pub lower-some : (i : ℕ) → (i ≡ 0 → ⊥) → Some (i - 1) ≡ lower_bound i
unfolding lower_bound
lower-some zero n = absurd (n refl)
lower-some (suc i) n = ap Some (omega arith)

-- ---- the neighbour is an edge
lower-tested : (i n : ℕ) → i < n → link_holds n (lower_bound i) ≡ true
unfolding lower_bound link_holds
lower-tested zero n h = refl
lower-tested (suc i) n h = lt-ltb i n (omega arith)

upper-tested : (axis : Axis) (i : ℕ) → link_holds axis.len (upper_bound axis i) ≡ true
unfolding upper_bound link_holds
upper-tested axis i = by (ltb (i + 1) axis.len) (edge_at axis (i + 1)).flags.done refl
  where
    by : (t d : Bool) → ltb (i + 1) axis.len ≡ t → link_holds axis.len (cond (t && d) (Some (i + 1)) None) ≡ true
    by true true e = e
    by true false e = refl
    by false d e = refl

pub neighbour-below : (dir : LinkDir) (axis : Axis) (i : ℕ) → i < axis.len → Below axis.len (neighbour dir axis i)
unfolding neighbour
neighbour-below Prev axis i h = link-below axis.len (lower_bound i) (lower-tested i axis.len h)
neighbour-below Next axis i h = link-below axis.len (upper_bound axis i) (upper-tested axis i)

-- ---- the adjustment
pub adjusted-first : (axis : Axis) (i : ℕ) (dir : LinkDir) → i ≡ 0 → axis ≡ adjusted axis i dir
unfolding adjusted
adjusted-first axis zero dir e = refl
adjusted-first axis (suc i) dir e = absurd (omega (arith, e))

pub adjusted-later : (axis : Axis) (i : ℕ) (dir : LinkDir) → (i ≡ 0 → ⊥) → adjusted axis i dir ≡ bound_by axis (i - 1) i dir (neighbour dir axis i)
unfolding adjusted
adjusted-later axis zero dir n = absurd (n refl)
adjusted-later axis (suc i) dir n = ap (λ (h : ℕ). bound_by axis h (suc i) dir (neighbour dir axis (suc i))) (omega arith)
