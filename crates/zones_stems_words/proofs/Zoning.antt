-- Whether edges have zones, by what the code has tested of their words.
use mathlib.Core.Path.{◌≡◌, sym, ap, ◌∙◌}
use mathlib.Core.Bool.{Bool, true, false, ◌||◌}
use mathlib.Core.List.{List}
use lib.IntN.{ℤ}
use Rattle.axis.specs.declared.kinds.Dimension.{Dimension}
use Rattle.axis.specs.declared.kinds.Group.{Group}
use Rattle.axis.specs.Refusals.{is_bare, every_edge}
use Rattle.words.specs.Edge.{axis_run, flat_axis}
use Rattle.zones.specs.Call.{has_blues}
use Rattle.zones_stems.specs.Joined.{zones_hold}
use Rattle.words_call.specs.Lent.{edges_of}
use Rattle.words_edge.specs.Whole.{axis_in}

module _ (ws : List ℤ) (dim : Dimension) (group : Group) {t : Bool} (e : t ≡ has_blues group dim) where
  pub zones-there : t ≡ true → true ≡ zones_hold group (axis_in ws dim)
  unfolding zones_hold flat_axis axis_run
  zones-there q = ap (λ (x : Bool). x || every_edge is_bare (axis_in ws dim)) (sym q ∙ e)

  pub zones-absent : {r : Bool} → t ≡ false → r ≡ every_edge is_bare (edges_of ws) → r ≡ zones_hold group (axis_in ws dim)
  unfolding zones_hold flat_axis axis_run
  zones-absent q n = n ∙ ap (λ (x : Bool). x || every_edge is_bare (axis_in ws dim)) (sym q ∙ e)
