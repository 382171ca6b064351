-- A CJK stem worked out by hand from document 01 and the table of request #105: where its two edges come to, and that both are marked stem.
use mathlib.Core.Path.{◌≡◌, refl}
use mathlib.Core.Bool.{false}
use mathlib.Core.List.{List, [], ◌∷◌}
use Prim.Native.Nat.{ℕ}
use lib.ListN.{length}
use lib.IntN.{pos, neg_ℤ}
use Rattle.refusals.specs.Refusal.{refusal}
use Rattle.fixed.specs.declared.width.WidthRule.TheVariants.{Keep}
use Rattle.fixed.specs.Pixel.{pix_floor}
use Rattle.fixed.specs.Width.{fitted_width, rule_holds}
use Rattle.axis.specs.declared.kinds.Direction.TheVariants as Directions
use Rattle.axis.specs.declared.kinds.Dimension.TheVariants.{Vertical}
use Rattle.axis.specs.declared.kinds.Mark.{Mark}
use Rattle.axis.specs.declared.kinds.Mark.TheVariants.{Nothing, Blue, Linked, Stem}
use Rattle.axis.specs.declared.edge.Edge.{Edge}
use Rattle.axis.specs.declared.edge.Axis.{Axis}
use Rattle.axis.specs.Edge.{fresh_edge, placed, finished}
use Rattle.axis.specs.Refusals as R
use Rattle.stems_cjk.specs.Cjk.{max_gap, gap_of, pixel_offset, narrow_delta, offsets_delta, start_of, clamped, delta_of, stem_at, stem_of, placed_stem, hinted_stem}
use Rattle.stems_cjk.specs.Hint.{hinted, hint_normal_stem_cjk}

-- an edge by its mark, opos and pos
abbrev edge : Mark → ℕ → ℕ → Edge
edge m o p = placed (fresh_edge (pos 0) (pos o) Directions.None 0) (pos p) m

-- a vertical axis of these edges
abbrev axis_of : List Edge → Axis
axis_of es = record { dim = Vertical; major_dir = Directions.None; edges = es; len = length es }

pub record Worked : Type 0 where
  -- a stem from 40 to 80, with Keep, would go down by 16, to the pixel's side below it, and goes by 14; neither edge is made done
  pub stem : hint_normal_stem_cjk (axis_of (edge Nothing 40 40 ∷ edge Blue 80 80 ∷ [])) false Keep [] 0 1 (pos 0)
      ≡ hinted (axis_of (edge Stem 40 26 ∷ edge Stem 80 66 ∷ [])) (neg_ℤ (pos 14)) 0
  -- shifted by 5 first, it would go up by 19, and goes by 14; an edge that is done is marked too
  pub shifted : hint_normal_stem_cjk (axis_of (finished (edge Linked 40 59) ∷ edge Nothing 80 80 ∷ [])) false Keep [] 0 1 (pos 5)
      ≡ hinted (axis_of (finished (edge Stem 40 59) ∷ edge Stem 80 99 ∷ [])) (pos 14) 0
  -- a refusal keeps both marks, here of an edge that is not there
  pub refused : hint_normal_stem_cjk (axis_of (edge Linked 40 40 ∷ edge Blue 80 80 ∷ [])) false Keep [] 0 2 (pos 0)
      ≡ hinted (axis_of (edge Linked 40 40 ∷ edge Blue 80 80 ∷ [])) (pos 0) 3

pub worked : Worked
unfolding hint_normal_stem_cjk max_gap gap_of pixel_offset narrow_delta offsets_delta start_of clamped delta_of stem_at stem_of placed_stem hinted_stem pix_floor fitted_width
    rule_holds refusal R.edges_indices
    R.edges_numbers R.edge_indices R.edge_numbers R.link_holds R.blue_holds R.every
worked = record { stem = refl; shifted = refl; refused = refl }
