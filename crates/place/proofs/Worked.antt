-- Calls that place one edge, worked out by hand from document 01 and the table of request #105: where it comes to, and what it is marked with.
use Rattle.std.specs.Prelude.{None, Some}
use mathlib.Core.Path.{◌≡◌, refl}
use mathlib.Core.Bool.{true, false}
use mathlib.Core.List.{List, [], ◌∷◌}
use Prim.Native.Nat.{ℕ}
use lib.ListN.{length}
use lib.IntN.{pos}
use Rattle.refusals.specs.Refusal.{refusal}
use Rattle.fixed.specs.declared.width.WidthRule.TheVariants.{Keep}
use Rattle.fixed.specs.Width.{fitted_width, rule_holds}
use Rattle.axis.specs.Link.{Link}
use Rattle.axis.specs.declared.kinds.Direction.TheVariants as Directions
use Rattle.axis.specs.declared.kinds.Dimension.TheVariants.{Vertical}
use Rattle.axis.specs.declared.kinds.Mark.{Mark}
use Rattle.axis.specs.declared.kinds.Mark.TheVariants.{Nothing, Blue, Linked, Stem, Bound, Serif}
use Rattle.axis.specs.declared.edge.Edge.{Edge}
use Rattle.axis.specs.declared.edge.Axis.{Axis}
use Rattle.axis.specs.Edge.{fresh_edge, placed, finished, joined_to}
use Rattle.axis.specs.Refusals as R
use Rattle.place.specs.declared.adjust.LinkDir.TheVariants.{Prev, Next}
use Rattle.place.specs.Placing.{linked_pos, serif_pos, lower_bound, upper_bound, has_passed, neighbour, held_to, bound_by, adjusted}
use Rattle.place.specs.Fitting.{fitted, align_linked_edge, align_serif_edge, adjust_link}

-- an edge by its mark, opos, pos and link
abbrev edge : Mark → ℕ → ℕ → Link → Edge
edge m o p l = joined_to (placed (fresh_edge (pos 0) (pos o) Directions.None 0) (pos p) m) l None

-- a vertical axis of these edges
abbrev axis_of : List Edge → Axis
axis_of es = record { dim = Vertical; major_dir = Directions.None; edges = es; len = length es }

-- a base edge moved from 10 to 0, and another one
abbrev pair : Edge → Axis
pair e = axis_of (edge Blue 10 0 None ∷ e ∷ [])

-- an edge that is linked to the last, between one at 100 and that
abbrev three : Edge → Edge → Axis
three e link = axis_of (edge Stem 50 100 None ∷ e ∷ link ∷ [])

pub record Worked : Type 0 where
  -- 64 from its base edge, with Keep: linked, and not done; so it is where it stood there already, by its stem
  pub linked : align_linked_edge (pair (edge Nothing 74 74 None)) Keep [] 0 1 ≡ fitted (pair (edge Linked 74 64 None)) 0
  pub linked_again : align_linked_edge (pair (finished (edge Stem 74 64 None))) Keep [] 0 1 ≡ fitted (pair (finished (edge Linked 74 64 None))) 0
  -- 20 from it, as it was: serif, and so where it stood there already
  pub serif : align_serif_edge (pair (edge Nothing 30 30 None)) 0 1 ≡ fitted (pair (edge Serif 30 20 None)) 0
  pub serif_again : align_serif_edge (pair (edge Bound 30 20 None)) 0 1 ≡ fitted (pair (edge Serif 30 20 None)) 0
  -- at 90 it has passed the previous edge, at 210 the next, which is done at 200: it is held to that one, and bound
  pub bound : adjust_link (three (edge Nothing 60 90 (Some 2)) (edge Stem 160 200 (Some 1))) 1 Prev false
      ≡ fitted (three (edge Bound 60 100 (Some 2)) (edge Stem 160 200 (Some 1))) 0
  pub bound_next : adjust_link (three (edge Serif 60 210 (Some 2)) (finished (edge Stem 160 200 (Some 1)))) 1 Next false
      ≡ fitted (three (edge Bound 60 200 (Some 2)) (finished (edge Stem 160 200 (Some 1)))) 0
  -- it keeps its mark where it has passed none, and where its link is within 16 of the previous edge
  pub not_passed : adjust_link (three (edge Serif 60 110 (Some 2)) (edge Stem 160 200 (Some 1))) 1 Prev false
      ≡ fitted (three (edge Serif 60 110 (Some 2)) (edge Stem 160 200 (Some 1))) 0
  pub link_near : adjust_link (three (edge Serif 60 90 (Some 2)) (edge Stem 160 116 (Some 1))) 1 Prev false
      ≡ fitted (three (edge Serif 60 90 (Some 2)) (edge Stem 160 116 (Some 1))) 0
  -- and by a refusal, here of the retired order
  pub refused : adjust_link (three (edge Serif 60 90 (Some 2)) (edge Stem 160 200 (Some 1))) 1 Prev true
      ≡ fitted (three (edge Serif 60 90 (Some 2)) (edge Stem 160 200 (Some 1))) 10

pub worked : Worked
unfolding align_linked_edge align_serif_edge adjust_link linked_pos serif_pos fitted_width rule_holds lower_bound upper_bound has_passed neighbour held_to bound_by adjusted
    refusal R.edges_indices
    R.edges_numbers R.edge_indices R.edge_numbers R.link_holds R.blue_holds R.every
worked = record {
  linked = refl;
  linked_again = refl;
  serif = refl;
  serif_again = refl;
  bound = refl;
  bound_next = refl;
  not_passed = refl;
  link_near = refl;
  refused = refl;
}
