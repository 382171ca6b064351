-- `place::adjust::adjust` meets its contract.
use Rattle.std.specs.Prelude.{Some}
use mathlib.Core.Path.{◌≡◌, sym, ◌∙◌}
use mathlib.Core.Bool.{Bool}
use Prim.Native.Nat.{ℕ, ◌<◌, ◌≤◌, ◌-◌}
use native.Mathlib.Omega.{arith}
use borrow.Author.Rules.{rules}
use lib.IntN.{ℤ}
use mir.Syntax.{w32}
use mir.Val.{to_z, of_z}
use Rattle.axis.specs.declared.edge.Axis.{Axis}
use Rattle.axis.specs.Edge.{edge_at}
use Rattle.axis.specs.Limits.{most_edges, most_pos}
use Rattle.axis.specs.Accepted.{AxisWithin}
use Rattle.place.specs.declared.adjust.LinkDir.{LinkDir}
use Rattle.place.specs.Placing.{has_passed, is_far, neighbour, held_to, bound_by}
use Rattle.place.specs.Steps.{InReach}
use Rattle.place.proofs.Reach.{in_table, in_reach, reach-read}
use Rattle.place.proofs.Neighbours.{neighbour-below, adjusted-first, adjusted-later}
use Rattle.place.proofs.adjust.adjust.Goals as goal

-- ---- the edges that the adjustment reads
-- the neighbour is an edge of the axis
neighbour-edge : (dir : LinkDir) (axis : Axis) (i k : ℕ) → i < axis.len → neighbour dir axis i ≡ Some k → k < axis.len
neighbour-edge dir axis i k h e = (neighbour-below dir axis i h).at k e

-- and so is the edge that an edge of it is linked to
link-edge : (axis : Axis) (i l : ℕ) → AxisWithin most_pos axis → i < axis.len → (edge_at axis i).link ≡ Some l → l < axis.len
link-edge axis i l h g e = (h.edge i g).link.at l e

-- an edge of the axis is within reach
reaches : (axis : Axis) (i : ℕ) → AxisWithin most_pos axis → i < axis.len → InReach (edge_at axis i)
reaches axis i h g = in_reach most_pos i axis (omega arith) h g

-- where an edge is, as the machine reads it
read-is : (axis : Axis) (i : ℕ) → AxisWithin most_pos axis → i < axis.len → to_z w32 (of_z w32 (edge_at axis i).pos) ≡ (edge_at axis i).pos
read-is axis i h g = reach-read _ (reaches axis i h g).pos

passed-is : (dir : LinkDir) (axis : Axis) (i k : ℕ) (r : Bool)
    → AxisWithin most_pos axis
    → i < axis.len
    → neighbour dir axis i ≡ Some k
    → r ≡ has_passed dir (to_z w32 (of_z w32 (edge_at axis i).pos)) (to_z w32 (of_z w32 (edge_at axis k).pos))
    → r ≡ has_passed dir (edge_at axis i).pos (edge_at axis k).pos
passed-is dir axis i k r h g n e = rw (read-is axis i h g, read-is axis k h (neighbour-edge dir axis i k g n)) at e

far-is : (axis : Axis) (i l : ℕ) (r : Bool)
    → AxisWithin most_pos axis
    → i < axis.len
    → (i ≡ 0 → ⊥)
    → (edge_at axis i).link ≡ Some l
    → r ≡ is_far (to_z w32 (of_z w32 (edge_at axis l).pos)) (to_z w32 (of_z w32 (edge_at axis (i - 1)).pos))
    → r ≡ is_far (edge_at axis l).pos (edge_at axis (i - 1)).pos
far-is axis i l r h g n f e = rw (read-is axis l h (link-edge axis i l h g f), read-is axis (i - 1) h (omega arith)) at e

pub returns-then-edge-eq0 : goal.returns-then-edge-eq0
returns-then-edge-eq0 c = adjusted-first _ _ _ c.if-edge-eq0.true

pub returns-in_default : goal.returns-in_default
unfolding bound_by
returns-in_default c = rw (adjusted-later _ _ _ c.if-edge-eq0.false, sym c.neighbour_of-neighbour.ensures ∙ c.in_default.is)

pub bounds-axis-k : goal.bounds-axis-k
bounds-axis-k c =
    let s = c.args in in_table _ _ s.axis c.requires.0 (neighbour-edge s.dir s.axis s.edge _ c.requires.1 (sym c.neighbour_of-neighbour.ensures ∙ c.in-Some.is))

pub returns-then-not-has_passed : goal.returns-then-not-has_passed
unfolding bound_by
returns-then-not-has_passed c =
    rw (adjusted-later _ _ _ c.if-edge-eq0.false, sym c.neighbour_of-neighbour.ensures ∙ c.in-Some.is, sym (passed-is c.args.dir c.args.axis c.args.edge _ _ c.requires.0 c.requires.1 (sym c.neighbour_of-neighbour.ensures ∙ c.in-Some.is) c.has_passed.ensures) ∙ c.if-not-has_passed.true)

pub returns-in_default-link : goal.returns-in_default-link
unfolding bound_by held_to
returns-in_default-link c =
    rw (
      adjusted-later _ _ _ c.if-edge-eq0.false,
      sym c.neighbour_of-neighbour.ensures ∙ c.in-Some.is,
      sym (passed-is c.args.dir c.args.axis c.args.edge _ _ c.requires.0 c.requires.1 (sym c.neighbour_of-neighbour.ensures ∙ c.in-Some.is) c.has_passed.ensures) ∙ c.if-not-has_passed.false,
      c.in_default-link.is,
    )

pub bounds-axis-l : goal.bounds-axis-l
bounds-axis-l c = let s = c.args in in_table _ _ s.axis c.requires.0 (link-edge s.axis s.edge _ c.requires.0 c.requires.1 c.in-Some-link.is)

pub is_far-requires : goal.is_far-requires
is_far-requires c =
    let s = c.args in
    let h = c.requires.1 in
    let n = c.if-edge-eq0.false in
    let p = (reaches s.axis _ c.requires.0 (link-edge s.axis s.edge _ c.requires.0 c.requires.1 c.in-Some-link.is)).pos in
    let q = (reaches s.axis (s.edge - 1) c.requires.0 (omega arith)).pos in
    rw (reach-read _ p, reach-read _ q) (p, q)

pub returns-then-not-is_far : goal.returns-then-not-is_far
unfolding bound_by held_to
returns-then-not-is_far c =
    rw (
      adjusted-later _ _ _ c.if-edge-eq0.false,
      sym c.neighbour_of-neighbour.ensures ∙ c.in-Some.is,
      sym (passed-is c.args.dir c.args.axis c.args.edge _ _ c.requires.0 c.requires.1 (sym c.neighbour_of-neighbour.ensures ∙ c.in-Some.is) c.has_passed.ensures) ∙ c.if-not-has_passed.false,
      c.in-Some-link.is,
      sym (far-is c.args.axis c.args.edge _ _ c.requires.0 c.requires.1 c.if-edge-eq0.false c.in-Some-link.is c.is_far.ensures) ∙ c.if-not-is_far.true,
    )

pub offset_bounds-held-edge : goal.offset_bounds-held-edge
offset_bounds-held-edge c = let h = in_table _ _ c.args.axis c.requires.0 c.requires.1 in search rules

pub bounds-held-edge : goal.bounds-held-edge
bounds-held-edge c = in_table _ _ c.args.axis c.requires.0 c.requires.1

pub returns : goal.returns
unfolding bound_by held_to
returns c =
    rw (
      adjusted-later _ _ _ c.if-edge-eq0.false,
      sym c.neighbour_of-neighbour.ensures ∙ c.in-Some.is,
      sym (passed-is c.args.dir c.args.axis c.args.edge _ _ c.requires.0 c.requires.1 (sym c.neighbour_of-neighbour.ensures ∙ c.in-Some.is) c.has_passed.ensures) ∙ c.if-not-has_passed.false,
      c.in-Some-link.is,
      sym (far-is c.args.axis c.args.edge _ _ c.requires.0 c.requires.1 c.if-edge-eq0.false c.in-Some-link.is c.is_far.ensures) ∙ c.if-not-is_far.false,
      rw (read-is c.args.axis _ c.requires.0 (neighbour-edge c.args.dir c.args.axis c.args.edge _ c.requires.1 (sym c.neighbour_of-neighbour.ensures ∙ c.in-Some.is))) at c.with_pos.ensures,
    )
