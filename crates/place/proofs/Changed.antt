-- The adjustment changes nothing but the position of its edge, which is bound then.
use Rattle.std.specs.Prelude.{None, Some}
use mathlib.Core.Path.{refl}
use mathlib.Core.List.{List, [], ◌∷◌}
use Prim.Native.Nat.{ℕ, zero, suc}
use borrow.Author.Tests.{eq-eqb}
use lib.Dec.{eqb}
use Rattle.signed.proofs.Choices.{either_way}
use Rattle.axis.specs.Link.{Link}
use Rattle.axis.specs.declared.kinds.Mark.{Mark}
use Rattle.axis.specs.declared.kinds.Mark.TheVariants.{Bound}
use Rattle.axis.specs.declared.edge.Edge.{Edge}
use Rattle.axis.specs.declared.edge.Axis.{Axis}
use Rattle.axis.specs.Edge.{edge_at, put_edge}
use Rattle.axis.specs.Mark.{among}
use Rattle.axis.specs.Changes.{position, Only, wherever, OnlyAxis}
use Rattle.axis.proofs.Only.{placed-only, named, same-axis, put_only}
use Rattle.place.specs.declared.adjust.LinkDir.{LinkDir}
use Rattle.place.specs.Placing.{is_far, has_passed, neighbour, held_to, bound_by, adjusted}

-- one edge is stored, of which nothing but the position is changed, by these marks
pub position-put : (ms : List Mark) (axis : Axis) (i : ℕ) (e : Edge) → Only (position ms) (edge_at axis i) e
    → OnlyAxis (wherever (eqb i) (position ms)) axis (put_edge axis i e)
position-put ms axis i e h = put_only _ axis i e (named (eqb i) (position ms) i (edge_at axis i) e (eq-eqb i i refl) h)

module _ (axis : Axis) (i : ℕ) where
  abbrev Kept : Axis → Type 0
  Kept = OnlyAxis (wherever (eqb i) (position (Bound ∷ []))) axis

  as_it_was : Kept axis
  as_it_was = same-axis _ axis

  held : (h k : ℕ) (l : Link) → Kept (held_to axis h i k l)
  unfolding held_to among
  held h k None = as_it_was
  held h k (Some l) =
      either_way Kept (is_far (edge_at axis l).pos (edge_at axis h).pos) _ axis
      (position-put (Bound ∷ []) axis i _ (placed-only (Bound ∷ []) (edge_at axis i) (edge_at axis k).pos Bound refl)) as_it_was

  bound : (h : ℕ) (dir : LinkDir) (l : Link) → Kept (bound_by axis h i dir l)
  unfolding bound_by
  bound h dir None = as_it_was
  bound h dir (Some k) = either_way Kept (has_passed dir (edge_at axis i).pos (edge_at axis k).pos) _ axis (held h k (edge_at axis i).link) as_it_was

pub adjusted-only : (axis : Axis) (i : ℕ) (dir : LinkDir) → OnlyAxis (wherever (eqb i) (position (Bound ∷ []))) axis (adjusted axis i dir)
unfolding adjusted
adjusted-only axis zero dir = as_it_was axis zero
adjusted-only axis (suc h) dir = bound axis (suc h) h dir (neighbour dir axis (suc h))
