-- Passes worked out by hand from document 01 and the table of request #105: where edges come to, and what they are marked with.
use Rattle.std.specs.Prelude.{None, Some}
use mathlib.Core.Path.{◌≡◌, refl}
use mathlib.Core.Bool.{Bool, true, false}
use mathlib.Core.List.{List, [], ◌∷◌}
use Prim.Native.Nat.{ℕ}
use lib.ListN.{length}
use lib.IntN.{pos}
use Rattle.fixed.specs.declared.width.WidthRule.TheVariants.{Keep}
use Rattle.fixed.specs.Width.{fitted_width}
use Rattle.axis.specs.Link.{Link}
use Rattle.axis.specs.Link.{Blue}
use Rattle.axis.specs.declared.kinds.Direction.TheVariants as Directions
use Rattle.axis.specs.declared.kinds.Dimension.TheVariants.{Vertical}
use Rattle.axis.specs.declared.kinds.Mark.{Mark}
use Rattle.axis.specs.declared.kinds.Mark.TheVariants as Marks
use Rattle.axis.specs.declared.edge.Edge.{Edge}
use Rattle.axis.specs.declared.edge.Axis.{Axis}
use Rattle.axis.specs.Edge.{fresh_edge, changed, has_blue}
use Rattle.axis.specs.Visits.{visits}
use Rattle.place.specs.Placing.{linked_pos}
use Rattle.zones.specs.Zones.{skipped, zone_mark, link_aligned, anchor_first, visit_alone, visit_pair, visit_link, visit}
use Rattle.zones.specs.Answer.{Anchored}
use Rattle.zones.specs.Pass.{anchored, blues_of}

-- an edge by its original position, position, mark, done and neutral, zone and link
abbrev edge : ℕ → ℕ → Mark → Bool → Bool → Blue → Link → Edge
edge o p m done neutral b l =
    changed (fresh_edge (pos 0) (pos o) Directions.None 0) (pos p) m (record { round = false; serif = false; done = done; neutral = neutral }) b l None 0

-- an edge not done, where nothing has put it yet, and one that is done, by its mark
abbrev new : ℕ → Blue → Link → Edge
new o b l = edge o o Marks.Nothing false false b l

abbrev put : ℕ → ℕ → Mark → Blue → Link → Edge
put o p m b l = edge o p m true false b l

-- a zone, and none
abbrev at : ℕ → Blue
at z = Some (pos z)

-- a vertical axis of these edges
abbrev axis_of : List Edge → Axis
axis_of es = record { dim = Vertical; major_dir = Directions.None; edges = es; len = length es }

-- the pass with Keep
abbrev pass_of : List Edge → Anchored
pass_of es = blues_of Keep [] (axis_of es)

-- what it comes to, by the anchor
abbrev becomes : ℕ → List Edge → Anchored
becomes a es = anchored (axis_of es) (Some a) 0

pub record Worked : Type 0 where
  -- the first edge on a zone is the blue anchor, the edge linked to it is linked, and the next on a zone is blue
  pub three_marks : pass_of (new 10 (at 0) (Some 1) ∷ new 74 None (Some 0) ∷ new 200 (at 192) None ∷ [])
      ≡ becomes 0 (put 10 0 Marks.BlueAnchor (at 0) (Some 1) ∷ put 74 64 Marks.Linked None (Some 0) ∷ put 200 192 Marks.Blue (at 192) None
      ∷ [])
  -- where its link takes the zone, that one is the blue anchor, and the visited edge, which is the anchor handed back, is linked
  pub zone_of_the_link : pass_of (new 10 None (Some 1) ∷ new 74 (at 64) (Some 0) ∷ [])
      ≡ becomes 0 (put 10 0 Marks.Linked None (Some 1) ∷ put 74 64 Marks.BlueAnchor (at 64) (Some 0) ∷ [])
  -- an edge that is done already keeps its mark on its zone, though it moves; no later one is the blue anchor
  pub done-before : pass_of (new 10 None (Some 1) ∷ put 74 70 Marks.Stem (at 64) (Some 0) ∷ new 200 (at 192) None ∷ [])
      ≡ becomes 0 (put 10 0 Marks.Linked None (Some 1) ∷ put 74 64 Marks.Stem (at 64) (Some 0) ∷ put 200 192 Marks.Blue (at 192) None ∷ [])
  -- a done edge that is aligned as the linked one becomes linked
  pub done_linked : pass_of (new 10 (at 0) (Some 1) ∷ put 74 70 Marks.Stem None (Some 0) ∷ [])
      ≡ becomes 0 (put 10 0 Marks.BlueAnchor (at 0) (Some 1) ∷ put 74 64 Marks.Linked None (Some 0) ∷ [])
  -- a neutral zone is removed: its edge is linked to the other
  pub neutral_zone : pass_of (new 10 (at 0) (Some 1) ∷ edge 74 74 Marks.Serif false true (at 60) (Some 0) ∷ [])
      ≡ becomes 0 (put 10 0 Marks.BlueAnchor (at 0) (Some 1) ∷ put 74 64 Marks.Linked None (Some 0) ∷ [])

pub worked : Worked
unfolding blues_of visits visit visit_link visit_pair visit_alone skipped has_blue zone_mark link_aligned anchor_first linked_pos fitted_width
worked = record {
  three_marks = refl;
  zone_of_the_link = refl;
  done-before = refl;
  done_linked = refl;
  neutral_zone = refl;
}
