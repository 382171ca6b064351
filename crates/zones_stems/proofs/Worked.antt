-- Calls worked out by hand: zones and then stems, marks of both, and why a zone is refused where the group has none.
use Rattle.std.specs.Prelude.{None, Some}
use mathlib.Core.Path.{◌≡◌, refl}
use mathlib.Core.Bool.{false}
use mathlib.Core.List.{List, [], ◌∷◌}
use Prim.Native.Nat.{ℕ}
use native.Mathlib.Omega.{arith}
use lib.ListN.{length}
use lib.IntN.{pos}
use Rattle.refusals.specs.Refusal.{refusal}
use Rattle.fixed.specs.declared.width.WidthRule.TheVariants.{Keep}
use Rattle.fixed.specs.Pixel.{pix_floor, pix_round}
use Rattle.fixed.specs.Width.{rule_holds, fitted_width}
use Rattle.axis.specs.Link.{Link}
use Rattle.axis.specs.declared.kinds.Direction.TheVariants as Directions
use Rattle.axis.specs.declared.kinds.Dimension.{Dimension}
use Rattle.axis.specs.declared.kinds.Dimension.TheVariants.{Horizontal, Vertical}
use Rattle.axis.specs.declared.kinds.Group.{Group}
use Rattle.axis.specs.declared.kinds.Group.TheVariants.{Default, Cjk}
use Rattle.axis.specs.declared.kinds.Mark.{Mark}
use Rattle.axis.specs.declared.kinds.Mark.TheVariants as Marks
use Rattle.axis.specs.declared.edge.Edge.{Edge}
use Rattle.axis.specs.declared.edge.Axis.{Axis}
use Rattle.axis.specs.Edge.{fresh_edge, changed, placed, finished, joined_to, has_blue}
use Rattle.axis.specs.Refusals.{link_holds, blue_holds, every, edge_indices, edge_numbers, edges_indices, edges_numbers}
use Rattle.axis.specs.Visits.{visits}
use Rattle.place.specs.Placing.{linked_pos, lower_bound, has_passed, neighbour, held_to, bound_by, adjusted}
use Rattle.zones.specs.Settled.{Settled}
use Rattle.zones.specs.Zones as Zone
use Rattle.zones.specs.Pass.{blues_of}
use Rattle.zones.specs.Call.{is_vertical, has_blues, align_edges_to_blues}
use Rattle.stems_latin.specs.Latin.{centre_of, lower_offset, upper_offset, nearer_centre, thin_centre, thin_first, thin_second, anchored_first, anchored_second}
use Rattle.stems_cjk.specs.Cjk.{max_gap, gap_of, pixel_offset, narrow_delta, offsets_delta, start_of, clamped, delta_of, stem_at, stem_of, placed_stem, hinted_stem}
use Rattle.stems.specs.Visit.{is_close, too_close, delta_beside, delta_after}
use Rattle.stems.specs.Answer.{Stems}
use Rattle.stems.specs.Stems as Stem
use Rattle.zones_stems.specs.Joined.{zones_hold, then_stems, align_blues_and_stems}

-- an edge by its mark, opos, pos and link
abbrev marked : Mark → ℕ → ℕ → Link → Edge
marked m o p l = joined_to (placed (fresh_edge (pos 0) (pos o) Directions.None 0) (pos p) m) l None

-- one that nothing has placed yet
abbrev edge : ℕ → Link → Edge
edge o = marked Marks.Nothing o o

-- an edge with a zone
abbrev zoned : ℕ → Edge → Edge
zoned z e = changed e e.pos e.mark e.flags (Some (pos z)) e.link e.serif e.last

abbrev axis_of : Dimension → List Edge → Axis
axis_of dim es = record { dim = dim; major_dir = Directions.None; edges = es; len = length es }

-- the call with Keep and without STEM_ADJUST
abbrev joined : Group → Axis → Stems
joined group axis = align_blues_and_stems axis group false false Keep []

-- a horizontal axis, and an edge on it that is linked to one with a zone, which the default group passes over
abbrev passed_over : Axis
passed_over = axis_of Horizontal (edge 100 (Some 1) ∷ zoned 192 (marked Marks.Nothing 160 170 None) ∷ [])

pub record Worked : Type 0 where
  -- edge 0 goes to its zone at 0 and is the anchor, edge 1 by its link to 60; beside that anchor the stem from 190 to 250 goes to 194 and 254, and edge 4 is
  -- counted
  pub zone_and_stem : joined Default
      (axis_of Vertical (zoned 0 (edge 10 (Some 1)) ∷ edge 70 (Some 0) ∷ edge 200 (Some 3) ∷ edge 260 (Some 2) ∷ edge 300 None ∷ []))
      ≡ Stem.stems 1 (Some 0)
      (axis_of Vertical
      (zoned 0 (finished (marked Marks.BlueAnchor 10 0 (Some 1))) ∷ finished (marked Marks.Linked 70 60 (Some 0))
      ∷ finished (marked Marks.Stem 200 194 (Some 3)) ∷ finished (marked Marks.Stem 260 254 (Some 2)) ∷ edge 300 None ∷ []))
      0
  -- for CJK on a horizontal axis too: edge 2 goes to its zone and is the anchor, until the stem, which goes to 26 and 66, has edge 0 for it
  pub cjk_anchor : joined Cjk (axis_of Horizontal (edge 40 (Some 1) ∷ edge 80 (Some 0) ∷ zoned 320 (edge 300 None) ∷ []))
      ≡ Stem.stems 0 (Some 0)
      (axis_of Horizontal
      (finished (marked Marks.Stem 40 26 (Some 1)) ∷ finished (marked Marks.Stem 80 66 (Some 0))
      ∷ zoned 320 (finished (marked Marks.BlueAnchor 300 320 None)) ∷ []))
      0
  -- without the refusal the fallback is reached: the two calls in a row place edge 0 by its link, which has its zone still
  pub fallback : then_stems Default false false Keep [] (align_edges_to_blues passed_over Default Keep [])
      ≡ Stem.stems 1 None (axis_of Horizontal
      (finished (marked Marks.Linked 100 110 (Some 1)) ∷ zoned 192 (marked Marks.Nothing 160 170 None) ∷ [])) 0
  pub unsettled : Settled 2 (align_edges_to_blues passed_over Default Keep []).axis → ⊥
  -- so the call refuses that axis
  pub refused : joined Default passed_over ≡ Stem.stems 0 None passed_over 2

pub worked : Worked
unfolding align_blues_and_stems align_edges_to_blues Stem.align_stem_edges refusal rule_holds zones_hold has_blues is_vertical every edges_indices edge_indices link_holds
    edges_numbers edge_numbers
    blue_holds blues_of visits has_blue Zone.skipped Zone.zone_mark Zone.link_aligned Zone.anchor_first Zone.visit_alone Zone.visit_pair Zone.visit_link Zone.visit
    Stem.stems_of
    Stem.visit Stem.visit_link Stem.zone_stem Stem.group_stem Stem.latin_stem Stem.beside_anchor Stem.cjk_stem too_close is_close delta_after delta_beside linked_pos
    lower_bound has_passed
    neighbour held_to bound_by adjusted fitted_width pix_floor pix_round centre_of lower_offset upper_offset nearer_centre thin_centre thin_first thin_second
    anchored_first anchored_second
    max_gap gap_of pixel_offset narrow_delta offsets_delta start_of clamped delta_of stem_at stem_of placed_stem hinted_stem
worked = record {
  zone_and_stem = refl;
  cjk_anchor = refl;
  fallback = refl;
  unsettled = λ h. absurd (let b = h.bare 0 1 (omega arith) refl refl in let z : ◌≡◌ {A = ℕ} 0 1 = cc b in omega arith);
  refused = refl;
}
