-- How far a step moves edges: by a fitted width at most.
use Rattle.std.specs.Prelude.{None, Some}
use mathlib.Core.Path.{◌≡◌, refl}
use mathlib.Core.Bool.{Bool, true, false, cond}
use mathlib.Core.List.{List}
use Prim.Native.Nat.{ℕ, ◌+◌, ◌≤◌, ◌<◌}
use native.Mathlib.Omega.{arith}
use lib.IntN.{ℤ}
use Rattle.signed.specs.Range.{Between}
use Rattle.fixed.specs.declared.width.WidthRule.{WidthRule}
use Rattle.axis.specs.Link.{Link}
use Rattle.axis.specs.Link.{Blue}
use Rattle.axis.specs.declared.edge.Axis.{Axis}
use Rattle.axis.specs.Link.{index_or}
use Rattle.axis.specs.Edge.{edge_at, has_blue}
use Rattle.axis.specs.Limits.{most_units}
use Rattle.axis.specs.Accepted.{AxisWithin}
use Rattle.place.specs.Steps.{most_width}
use Rattle.zones.specs.Zones.{on_zone}
use Rattle.zones.specs.Steps.{zone_of, thin_both, by_zone, step_by, step}
use Rattle.zones.proofs.Kept.{within_more, link-in, choice-in, thin-put, zone-at, zone-put, link-put}
use Rattle.zones.specs.Pass.{state_of}

-- the stores of a step
module _ (m n : ℕ) (axis : Axis) (h : AxisWithin m axis) (e : axis.len ≡ n) where
  pub skip-within : (i k : ℕ) → i < n → k < n → AxisWithin m (thin_both axis i k)
  skip-within i k hi hk = thin-put m n k _ _ _ (thin-put m n i axis _ _ h e hi refl) e hk refl

  pub zone-within : (a : Link) (i : ℕ) (z : ℤ) → i < n → most_units ≤ m → Between most_units most_units z → AxisWithin m (on_zone axis a i z)
  zone-within a i z hi b r = zone-put m n i axis a z _ h e hi b r refl

-- a step
module _ (rule : WidthRule) (xs : List ℤ) (m n i : ℕ) (axis : Axis) (a : Link) (h : AxisWithin m axis) (e : axis.len ≡ n) (hi : i < n)
    (b : most_units ≤ m) where
  by-zone-within : (k : ℕ) (u : Axis) (x : Blue) → AxisWithin m u → u.len ≡ n → k < n → x ≡ zone_of (edge_at u i).blue (edge_at u k).blue
      → AxisWithin (m + most_width) (by_zone rule xs u a i k x).axis
  unfolding by_zone
  by-zone-within k u None g l hk q = within_more m (m + most_width) u (omega arith) g
  by-zone-within k u (Some z) g l hk q =
      let t = has_blue (edge_at u i).blue in
      let h1 = choice-in n i k (cond t i k) t hi hk refl in
      let h2 = choice-in n k i (cond t k i) t hk hi refl in
      link-put m n (cond t i k) (cond t k i) (on_zone u a (cond t i k) z) rule xs _
      (zone-within m n u g l a (cond t i k) z h1 b (zone-at m n i k u _ z g l hi hk q refl)) l h1 h2 refl

  pub step-within : AxisWithin (m + most_width) (step rule xs (state_of axis a) i).axis
  unfolding step
  step-within = by (edge_at axis i).flags.done
    where
      k : ℕ
      k = index_or i (edge_at axis i).link

      hk : k < n
      hk = link-in m n i k axis h e hi refl

      by : (t : Bool) → AxisWithin (m + most_width) (cond t (state_of axis a) (step_by rule xs (state_of axis a) i k)).axis
      by true = within_more m (m + most_width) axis (omega arith) h
      by false = by-zone-within k (thin_both axis i k) _ (skip-within m n axis h e i k hi hk) e hk refl
