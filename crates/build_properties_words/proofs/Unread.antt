-- The properties of edges read neither the dimension of an axis nor its major direction.
use Rattle.std.specs.Prelude.{None, Some}
use mathlib.Core.Path.{◌≡◌, refl, ap, ◌∙◌}
use mathlib.Core.Bool.{Bool, true, false}
use mathlib.Core.List.{List, [], ◌∷◌}
use Prim.Native.Nat.{ℕ, zero, suc}
use lib.IntN.{ℤ}
use Rattle.axis.specs.declared.edge.Axis.{Axis}
use Rattle.axis.specs.declared.edge.Edge.{Edge}
use Rattle.axis.specs.declared.kinds.Dimension.{Dimension}
use Rattle.axis.specs.declared.kinds.Direction.{Direction}
use Rattle.axis.specs.Link.{Link}
use Rattle.axis.specs.declared.segment.Segments.{Segments}
use Rattle.axis.specs.Edge.{edge_at}
use Rattle.axis.specs.Ring.{members}
use Rattle.build_properties.specs.Properties.{join_at, chosen, put_serif, put_link, join_by, member, visits, visit, edges, edge_properties}

-- an axis with another dimension and another major direction
abbrev pub faced : Dimension → Direction → Axis → Axis
faced d m a = record { dim = d; major_dir = m; edges = a.edges; len = a.len }

module _ (t : Segments) (d : Dimension) (m : Direction) where
  chosen-unread : (a : Axis) (e : Edge) (delta : ℤ) (q : ℕ) (held : Link) → chosen (faced d m a) e delta q held ≡ chosen a e delta q held
  unfolding chosen
  chosen-unread a e delta q None = refl
  chosen-unread a e delta q (Some o) = refl

  join-unread : (k : ℕ) (b : Bool) (delta : ℤ) (l : Link) (a : Axis) → join_by k b delta l (faced d m a) ≡ faced d m (join_by k b delta l a)
  unfolding join_by
  join-unread k b delta None a = refl
  join-unread k true delta (Some q) a = ap (λ (w : ℕ). put_serif k w (faced d m a)) (chosen-unread a (edge_at a k) delta q (edge_at a k).serif)
  join-unread k false delta (Some q) a = ap (λ (w : ℕ). put_link k w (faced d m a)) (chosen-unread a (edge_at a k) delta q (edge_at a k).link)

  member-unread : (k ix : ℕ) (a : Axis) → member t k ix (faced d m a) ≡ faced d m (member t k ix a)
  unfolding member
  member-unread k ix a = join-unread k (join_at t k ix).is_serif (join_at t k ix).delta (join_at t k ix).edge a

  visits-unread : (k : ℕ) (ms : List ℕ) (a : Axis) → visits t k ms (faced d m a) ≡ faced d m (visits t k ms a)
  unfolding visits
  visits-unread k [] a = refl
  visits-unread k (ix ∷ ms) a = ap (visits t k ms) (member-unread k ix a) ∙ visits-unread k ms (member t k ix a)

  visit-unread : (k : ℕ) (ms : List ℕ) (a : Axis) → visit t k ms (faced d m a) ≡ faced d m (visit t k ms a)
  unfolding visit
  visit-unread k ms a = rw (visits-unread k ms a)

  edges-unread : (k : ℕ) (a : Axis) → edges t k (faced d m a) ≡ faced d m (edges t k a)
  unfolding edges
  edges-unread zero a = refl
  edges-unread (suc k) a = ap (λ (x : Axis). visit t k (members x t k) x) (edges-unread k a) ∙ visit-unread k (members (edges t k a) t k) (edges t k a)

  pub properties-unread : (a : Axis) → edge_properties (faced d m a) t ≡ faced d m (edge_properties a t)
  unfolding edge_properties
  properties-unread a = edges-unread a.len a
