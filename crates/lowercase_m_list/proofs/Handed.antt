-- What the rule hands on in a lent list: every position is within `twice_moved`, as in the table form.
use mathlib.Core.Path.{◌≡◌, refl, subst}
use mathlib.Core.List.{List}
use Prim.Native.Nat.{ℕ, ◌<◌}
use native.Mathlib.Omega.{arith}
use lib.ListN.{length, get_or}
use Rattle.axis.specs.declared.kinds.Group.{Group}
use Rattle.axis.specs.declared.edge.Edge.{Edge}
use Rattle.axis.specs.Accepted.{EdgeWithin}
use Rattle.axis.specs.Edge.{empty_edge, edge_at}
use Rattle.lowercase_m.specs.M.{hint_lowercase_m}
use Rattle.lowercase_m.specs.Steps.{twice_moved}
use Rattle.lowercase_m.proofs.Changed.{changed}
use Rattle.lowercase_m.proofs.Handed as Table
use Rattle.lowercase_m_list.specs.M.{axis_of, hint_lowercase_m_list}

module _ (l : List Edge) (group : Group) where
  list_count : (hint_lowercase_m (axis_of l) group).axis.len ≡ length l
  list_count = (changed (axis_of l) group {r = hint_lowercase_m (axis_of l) group} refl).only.len

  -- with answer 0 every position of the list is within 9 · 2²⁴, and original positions, zones, links and serifs are as they are in accepted edges
  pub handed-within : (hint_lowercase_m_list l group).answer ≡ 0 → (i : ℕ) → i < length l
      → EdgeWithin twice_moved (length l) (get_or (hint_lowercase_m_list l group).edges i empty_edge)
  unfolding hint_lowercase_m_list
  handed-within e i q =
      let w = (Table.handed-within (axis_of l) group e).edge i (omega (arith, list_count)) in
      subst (λ (m : ℕ). EdgeWithin twice_moved m (edge_at (hint_lowercase_m (axis_of l) group).axis i)) list_count w
