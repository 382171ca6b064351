-- Passes worked out by hand from document 01 and the Rust: what is counted, what becomes the anchor, what the neighbour bound does, and what each edge is
-- marked with.
use Rattle.std.specs.Prelude.{None, Some}
use mathlib.Core.Path.{◌≡◌, refl}
use mathlib.Core.Bool.{false}
use mathlib.Core.List.{List, [], ◌∷◌}
use Prim.Native.Nat.{ℕ}
use lib.ListN.{length}
use lib.IntN.{ℤ, pos}
use Rattle.fixed.specs.declared.width.WidthRule.{WidthRule}
use Rattle.fixed.specs.declared.width.WidthRule.TheVariants.{Keep, Snap}
use Rattle.fixed.specs.Pixel.{pix_floor, pix_round}
use Rattle.fixed.specs.Width.{with_sign, settled, snapped, lifted, fitted_width}
use Rattle.axis.specs.Link.{Link}
use Rattle.axis.specs.declared.kinds.Direction.TheVariants as Directions
use Rattle.axis.specs.declared.kinds.Dimension.TheVariants.{Vertical}
use Rattle.axis.specs.declared.kinds.Group.{Group}
use Rattle.axis.specs.declared.kinds.Group.TheVariants.{Default, Cjk}
use Rattle.axis.specs.declared.kinds.Mark.{Mark}
use Rattle.axis.specs.declared.kinds.Mark.TheVariants as Marks
use Rattle.axis.specs.declared.edge.Edge.{Edge}
use Rattle.axis.specs.declared.edge.Axis.{Axis}
use Rattle.axis.specs.Edge.{fresh_edge, changed, placed, finished, joined_to}
use Rattle.axis.specs.Visits.{visits}
use Rattle.place.specs.Placing.{linked_pos, lower_bound, has_passed, neighbour, held_to, bound_by, adjusted}
use Rattle.stems_latin.specs.Latin.{
  centre_of,
  lower_offset,
  upper_offset,
  nearer_centre,
  thin_centre,
  thin_first,
  thin_second,
  wide_first,
  anchored_first,
  anchored_second,
  free_first,
}
use Rattle.stems_cjk.specs.Cjk.{max_gap, gap_of, pixel_offset, narrow_delta, offsets_delta, start_of, clamped, delta_of, stem_at, stem_of, placed_stem, hinted_stem}
use Rattle.stems.specs.Visit.{is_close, too_close, delta_after}
use Rattle.stems.specs.Answer.{Stems}
use Rattle.stems.specs.Stems.{beside_anchor, latin_stem, cjk_stem, group_stem, zone_stem, visit_link, visit, stems, stems_of, mode_of}

-- an edge by its mark, opos, pos and link
abbrev marked : Mark → ℕ → ℕ → Link → Edge
marked m o p l = joined_to (placed (fresh_edge (pos 0) (pos o) Directions.None 0) (pos p) m) l None

-- one that nothing has placed yet
abbrev edge : ℕ → ℕ → Link → Edge
edge = marked Marks.Nothing

-- an edge with a zone at its position
abbrev zoned : Edge → Edge
zoned e = changed e e.pos e.mark e.flags (Some e.pos) e.link e.serif e.last

-- a vertical axis of these edges
abbrev axis_of : List Edge → Axis
axis_of es = record { dim = Vertical; major_dir = Directions.None; edges = es; len = length es }

-- the pass without STEM_ADJUST, by the width rule and its list, the group, the anchor and the edges
abbrev pass_by : WidthRule → List ℤ → Group → Link → List Edge → Stems
pass_by rule xs group anchor es = stems_of (mode_of (axis_of es) group false rule) xs anchor (axis_of es)

-- the same with Keep
abbrev pass_of : Group → Link → List Edge → Stems
pass_of = pass_by Keep []

pub record Worked : Type 0 where
  -- an edge with no link is counted, one that is done is not, and both keep their marks; the first stem, from 10 to 74, goes to 0 and 64 and is the anchor, and
  -- the visit
  -- of its second edge ends with that edge adjusted
  pub first-stem : pass_of Default None
      (marked Marks.Serif 5 5 None ∷ finished (marked Marks.Blue 8 8 None) ∷ edge 10 10 (Some 3) ∷ edge 74 74 (Some 2) ∷ [])
      ≡ stems 1 (Some 2)
      (axis_of
      (marked Marks.Serif 5 5 None ∷ finished (marked Marks.Blue 8 8 None)
      ∷ finished (marked Marks.Anchor 10 0 (Some 3)) ∷ finished (marked Marks.Adjusted 74 64 (Some 2)) ∷ []))
      0
  -- its second edge, linked to no edge, is placed by its link and not done, and counted when it is visited
  pub second-edge : pass_of Default None (edge 10 10 (Some 1) ∷ edge 74 74 None ∷ [])
      ≡ stems 1 (Some 0) (axis_of (finished (marked Marks.Anchor 10 0 (Some 1)) ∷ marked Marks.Linked 74 64 None ∷ [])) 0
  -- a first edge that is linked to itself is placed as the anchor, then by its link
  pub self_linked_first : pass_of Default None (edge 100 100 (Some 0) ∷ [])
      ≡ stems 0 (Some 0) (axis_of (finished (marked Marks.Linked 100 96 (Some 0)) ∷ [])) 0
  -- stems of 96 and more: beside an anchor at 0 one from 100 to 196 goes to 96 and 192, and both its edges are marked stem; as the first one it goes to 128 and
  -- 224
  pub wide_stem : pass_of Default (Some 0) (finished (edge 0 0 None) ∷ edge 100 100 (Some 2) ∷ edge 196 196 (Some 1) ∷ [])
      ≡ stems 0 (Some 0) (axis_of (finished (edge 0 0 None) ∷ finished (marked Marks.Stem 100 96 (Some 2))
      ∷ finished (marked Marks.Stem 196 192 (Some 1)) ∷ [])) 0
  pub wide-first : pass_of Default None (edge 100 100 (Some 1) ∷ edge 196 196 (Some 0) ∷ [])
      ≡ stems 0 (Some 0) (axis_of (finished (marked Marks.Anchor 100 128 (Some 1)) ∷ finished (marked Marks.Adjusted 196 224 (Some 0)) ∷ [])) 0
  -- a stem from 130 to 190 whose first edge has passed the edge before it, at 300, more than 16 from the second, is held to that
  pub bounded : pass_of Default (Some 0)
      (finished (edge 0 0 None) ∷ finished (edge 50 300 None) ∷ edge 100 100 (Some 3) ∷ edge 160 160 (Some 2) ∷ [])
      ≡ stems 0 (Some 0)
      (axis_of (finished (edge 0 0 None) ∷ finished (edge 50 300 None) ∷ finished (marked Marks.Bound 100 300 (Some 3))
      ∷ finished (marked Marks.Stem 160 190 (Some 2)) ∷ [])) 0
  -- and so is one that is adjusted to its second edge, which is done: bound comes last
  pub adjusted_bound : pass_of Default (Some 0)
      (finished (edge 0 0 None) ∷ finished (edge 50 300 None) ∷ edge 100 100 (Some 3) ∷ finished (edge 160 160 (Some 2)) ∷ [])
      ≡ stems 0 (Some 0)
      (axis_of (finished (edge 0 0 None) ∷ finished (edge 50 300 None) ∷ finished (marked Marks.Bound 100 300 (Some 3))
      ∷ finished (edge 160 160 (Some 2)) ∷ [])) 0
  -- an edge whose link is on a zone is placed by that, whatever the group
  pub on-zone : pass_of Default None (edge 100 100 (Some 1) ∷ zoned (finished (marked Marks.BlueAnchor 160 170 (Some 0))) ∷ [])
      ≡ stems 0 None (axis_of (finished (marked Marks.Linked 100 110 (Some 1)) ∷ zoned (finished (marked Marks.BlueAnchor 160 170 (Some 0)))
      ∷ [])) 0
  -- a CJK stem goes to 26 and 66; the next, whose first edge at 129 is less than 64 behind, is passed over, and both its edges are counted
  pub too-close : pass_of Cjk None (edge 40 40 (Some 1) ∷ edge 80 80 (Some 0) ∷ edge 129 129 (Some 3) ∷ edge 170 170 (Some 2) ∷ [])
      ≡ stems 2 (Some 0) (axis_of (finished (marked Marks.Stem 40 26 (Some 1)) ∷ finished (marked Marks.Stem 80 66 (Some 0))
      ∷ edge 129 129 (Some 3) ∷ edge 170 170 (Some 2) ∷ [])) 0
  -- so it goes where its second edge is done already
  pub second_done : pass_of Cjk None (edge 40 40 (Some 1) ∷ finished (marked Marks.Blue 80 80 (Some 0)) ∷ [])
      ≡ stems 0 (Some 0) (axis_of (finished (marked Marks.Stem 40 26 (Some 1)) ∷ finished (marked Marks.Stem 80 66 (Some 0)) ∷ [])) 0
  -- a CJK stem whose second edge, at 30, is in front goes by its link to 70
  pub second_in_front : pass_of Cjk None (finished (edge 40 30 None) ∷ edge 80 80 (Some 0) ∷ [])
      ≡ stems 0 None (axis_of (finished (edge 40 30 None) ∷ finished (marked Marks.Linked 80 70 (Some 0)) ∷ [])) 0
  -- request #112: edge 1, linked to itself, has width 0 by either rule, and goes from 100 to the centre chosen, 96
  pub self_linked : pass_of Default (Some 0) (finished (edge 0 0 None) ∷ edge 100 100 (Some 1) ∷ [])
      ≡ stems 0 (Some 0) (axis_of (finished (edge 0 0 None) ∷ finished (marked Marks.Stem 100 96 (Some 1)) ∷ [])) 0
  pub self_linked_snap : pass_by Snap (pos 10 ∷ []) Default (Some 0) (finished (edge 0 0 None) ∷ edge 100 100 (Some 1) ∷ [])
      ≡ stems 0 (Some 0) (axis_of (finished (edge 0 0 None) ∷ finished (marked Marks.Stem 100 96 (Some 1)) ∷ [])) 0
  -- an anchor that is the edge itself, at 110, and an odd width, 61: the stem's centre, 110 and half of 61, goes from 140 to 160
  pub own_anchor : pass_of Default (Some 0) (edge 100 110 (Some 1) ∷ edge 161 200 (Some 0) ∷ [])
      ≡ stems 0 (Some 0) (axis_of (finished (marked Marks.Stem 100 130 (Some 1)) ∷ finished (marked Marks.Stem 161 190 (Some 0)) ∷ [])) 0
  -- request #102: with Snap a stem of 10 units, from 100 to 110, is drawn a pixel wide, about the centre chosen, 96
  pub not_vanishing : pass_by Snap [] Default (Some 0) (finished (edge 0 0 None) ∷ edge 100 100 (Some 2) ∷ edge 110 110 (Some 1) ∷ [])
      ≡ stems 0 (Some 0) (axis_of (finished (edge 0 0 None) ∷ finished (marked Marks.Stem 100 64 (Some 2))
      ∷ finished (marked Marks.Stem 110 128 (Some 1)) ∷ [])) 0

pub worked : Worked
unfolding stems_of visits visit visit_link too_close is_close zone_stem group_stem latin_stem beside_anchor cjk_stem delta_after linked_pos lower_bound has_passed
    neighbour held_to bound_by adjusted fitted_width lifted snapped settled with_sign pix_floor pix_round centre_of lower_offset upper_offset nearer_centre thin_centre
    thin_first thin_second
    wide_first anchored_first anchored_second free_first max_gap gap_of pixel_offset narrow_delta offsets_delta start_of clamped delta_of stem_at stem_of placed_stem
    hinted_stem
worked = record {
  first-stem = refl;
  second-edge = refl;
  self_linked_first = refl;
  wide_stem = refl;
  wide-first = refl;
  bounded = refl;
  adjusted_bound = refl;
  on-zone = refl;
  too-close = refl;
  second_done = refl;
  second_in_front = refl;
  self_linked = refl;
  self_linked_snap = refl;
  own_anchor = refl;
  not_vanishing = refl;
}
