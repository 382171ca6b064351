-- What the positions of a plan can be.
use mathlib.Core.Path.{◌≡◌}
use mathlib.Core.List.{List}
use native.Mathlib.Omega.{arith}
use lib.IntN.{ℤ, ◌-ℤ◌}
use mir.Syntax.{w32}
use mir.Val.{to_z, of_z}
use Rattle.signed.specs.Range.{Between}
use Rattle.signed.proofs.Signed.{add-law, fits-in, is}
use Rattle.fixed.specs.declared.width.WidthRule.{WidthRule}
use Rattle.fixed.specs.Width.{fitted_width}
use Rattle.axis.specs.declared.edge.Edge.{Edge}
use Rattle.place.specs.Placing.{linked_pos, linked_edge}
use Rattle.place.specs.Steps.{InReach}
use Rattle.place.proofs.Reach.{width-range}
use Rattle.stems.specs.Steps.{most_place}

-- an edge placed by its link
pub linked-range : (rule : WidthRule) (xs : List ℤ) (base stem : Edge) → InReach base → InReach stem
    → Between most_place most_place (linked_edge rule xs base stem).pos
unfolding linked_pos
linked-range rule xs base stem h g =
    let w = width-range rule xs base.opos stem.opos h.opos g.opos in
    omega (arith, w, h.pos, add-law base.pos (fitted_width rule xs (stem.opos -ℤ base.opos)))

-- a position is read back from its bits
pub place_read : (z : ℤ) → Between most_place most_place z → to_z w32 (of_z w32 z) ≡ z
place_read z h = is (fits-in w32 h tt tt)
