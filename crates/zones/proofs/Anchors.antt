-- The anchor that the visits find is an edge.
use Rattle.std.specs.Prelude.{None, Some}
use mathlib.Core.List.{List}
use Prim.Native.Nat.{ℕ, zero, suc, ◌+◌, ◌≤◌, ◌<◌}
use native.Mathlib.Omega.{arith}
use lib.IntN.{ℤ}
use Rattle.signed.proofs.Choices.{either_way}
use Rattle.fixed.specs.declared.width.WidthRule.{WidthRule}
use Rattle.axis.specs.Link.{Blue}
use Rattle.axis.specs.Link.{Link}
use Rattle.axis.specs.Accepted.{Below}
use Rattle.axis.specs.Edge.{edge_at}
use Rattle.axis.specs.Visits.{visits}
use Rattle.axis.proofs.Acceptance.{below-to}
use Rattle.zones.specs.Zones.{skipped, State, anchor_first, visit_alone, visit_pair, visit_link, visit}

module _ (n : ℕ) where
  first : (a : Link) (i : ℕ) → i < n → Below n a → Below n (anchor_first a i)
  unfolding anchor_first
  first None i q b = below-to n i q
  first (Some k) i q b = b

  alone : (s : State) (i : ℕ) (x : Blue) → i < n → Below n s.anchor → Below n (visit_alone s i x).anchor
  unfolding visit_alone
  alone s i None q b = b
  alone s i (Some z) q b = first s.anchor i q b

  module _ (rule : WidthRule) (xs : List ℤ) where
    pair : (s : State) (i k : ℕ) (x y : Blue) → i < n → Below n s.anchor → Below n (visit_pair rule xs s i k x y).anchor
    unfolding visit_pair
    pair s i k (Some z) y q b = first s.anchor i q b
    pair s i k None (Some z) q b = first s.anchor i q b
    pair s i k None None q b = b

    by-link : (s : State) (i : ℕ) (l : Link) → i < n → Below n s.anchor → Below n (visit_link rule xs s i l).anchor
    unfolding visit_link
    by-link s i None q b = alone s i (edge_at s.axis i).blue q b
    by-link s i (Some k) q b = pair (record { axis = skipped s.axis i k; anchor = s.anchor }) i k _ _ q b

    visited : (s : State) (i : ℕ) → i < n → Below n s.anchor → Below n (visit rule xs s i).anchor
    unfolding visit
    visited s i q b = either_way (λ (x : State). Below n x.anchor) (edge_at s.axis i).flags.done s _ b (by-link s i (edge_at s.axis i).link q b)

    -- n visits, or what is left of them
    pub anchors : (m i : ℕ) (s : State) → i + m ≤ n → Below n s.anchor → Below n (visits (visit rule xs) m i s).anchor
    unfolding visits
    anchors zero i s q b = b
    anchors (suc m) i s q b = anchors m (i + 1) (visit rule xs s i) (omega arith) (visited s i (omega arith) b)
