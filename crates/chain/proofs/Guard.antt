-- The guard behind the chain: edges that were built keep their order where it finds nothing, whatever was changed of them but their original positions.
use mathlib.Core.Path.{◌≡◌, refl}
use mathlib.Core.Bool.{Bool, true, false}
use mathlib.Core.List.{List}
use Prim.Native.Nat.{ℕ, ◌<◌}
use lib.IntN.{ℤ, pos}
use Rattle.axis.specs.declared.edge.Axis.{Axis}
use Rattle.axis.specs.declared.kinds.Group.{Group}
use Rattle.axis.specs.declared.segment.Segments.{Segments}
use Rattle.fixed.specs.declared.width.WidthRule.{WidthRule}
use Rattle.build.specs.declared.numbers.Thresholds.{Thresholds}
use Rattle.build.specs.Building.{compute_edges}
use Rattle.build.proofs.Handed as Building
use Rattle.gaps.specs.Gaps.{is_done, lost_gaps, EdgesRise, SameOpos, KeepsOrder}
use Rattle.gaps.proofs.Order as Order
use Rattle.zones_stems.specs.Joined.{align_blues_and_stems}
use Rattle.zones_stems.proofs.Changed as Joined

-- where the guard finds nothing at width 0, done edges are in order
abbrev pub Guarded : Axis → Type 0
Guarded axis = (lost_gaps axis (pos 0) false).answer ≡ 0 → (lost_gaps axis (pos 0) false).count ≡ 0 → (lost_gaps axis (pos 0) false).stems ≡ 0
    → (i j : ℕ) → i < j → j < axis.len → is_done axis i ≡ true → is_done axis j ≡ true → KeepsOrder axis i j

module _ (t : Segments) (old : Axis) (group : Group) (ttb : Bool) (scale : ℤ) (by : Thresholds) (e : (compute_edges t old group ttb scale by).answer ≡ 0) where
  -- the original positions of built edges do not fall
  pub built-rise : EdgesRise (compute_edges t old group ttb scale by).axis
  built-rise = record { at = Building.edges-rise t old group ttb scale by e }

  -- behind whatever leaves as many edges at the same original positions
  pub guarded : (new : Axis) → SameOpos (compute_edges t old group ttb scale by).axis new → Guarded new
  guarded new s = Order.order-kept new (Order.done-rise new (Order.rise-kept _ new s built-rise))

  -- so behind zones that the caller gives, and blues and stems
  pub chain-guarded : (zoned : Axis) → SameOpos (compute_edges t old group ttb scale by).axis zoned → (adjust : Bool) (rule : WidthRule) (xs : List ℤ)
      → Guarded (align_blues_and_stems zoned group adjust false rule xs).axis
  chain-guarded zoned s adjust rule xs =
      guarded _ (Order.same-opos _ zoned _ s (Order.pass-keeps _ zoned _
      (Joined.changed zoned group adjust false rule xs {r = align_blues_and_stems zoned group adjust false rule xs} refl).only))
