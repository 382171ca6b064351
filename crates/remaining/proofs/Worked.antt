-- Loops worked out by hand from the Rust: where each edge goes, what becomes the anchor, what each edge is marked with, and which positions no edge may have.
use Rattle.std.specs.Prelude.{None, Some}
use mathlib.Core.Path.{◌≡◌, refl}
use mathlib.Core.Bool.{Bool, true, false}
use mathlib.Core.List.{List, [], ◌∷◌, map}
use Prim.Native.Nat.{ℕ}
use lib.ListN.{length}
use lib.IntN.{ℤ, pos, neg_ℤ}
use Rattle.fixed.specs.Point.{rounded, rounded_z}
use Rattle.fixed.specs.Pixel.{pix_floor, pix_round}
use Rattle.fixed_ratio.specs.Ratio.{mul_div}
use Rattle.axis.specs.Link.{Link}
use Rattle.axis.specs.declared.kinds.Direction.TheVariants as Directions
use Rattle.axis.specs.declared.kinds.Dimension.TheVariants.{Vertical}
use Rattle.axis.specs.declared.kinds.Group.{Group}
use Rattle.axis.specs.declared.kinds.Group.TheVariants.{Default, Cjk}
use Rattle.axis.specs.declared.kinds.Mark.{Mark}
use Rattle.axis.specs.declared.kinds.Mark.TheVariants as Marks
use Rattle.axis.specs.declared.edge.Edge.{Edge}
use Rattle.axis.specs.Edge.{fresh_edge, placed, finished, joined_to}
use Rattle.axis.specs.Visits.{visits}
use Rattle.place.specs.Placing.{serif_pos, lower_bound, upper_bound, has_passed, neighbour, held_to, bound_by, adjusted}
use Rattle.remaining.specs.Plan.{half_floor, spaced_pos, between_pos}
use Rattle.remaining.specs.Remaining.{
  done_before,
  done_from,
  near_of,
  by_bounds,
  by_anchor,
  by_serif,
  serifs_plan,
  others_plan,
  plan_of,
  stored,
  State,
  carried_out,
  visit,
  pass_of,
  remaining_of,
}

-- ---- edges
-- one that is left, by its opos; by its font position too
abbrev left : ℤ → Edge
left o = fresh_edge (pos 0) o Directions.None 0

abbrev left_at : ℕ → ℕ → Edge
left_at f o = fresh_edge (pos f) (pos o) Directions.None 0

-- one that is done, at a position
abbrev at : Edge → ℤ → Edge
at e p = finished (placed e p Marks.Stem)

abbrev done : ℤ → ℤ → Edge
done o p = at (left o) p

-- with a serif, and with a link
abbrev serif : ℕ → Edge → Edge
serif k e = joined_to e e.link (Some k)

abbrev link : ℕ → Edge → Edge
link k e = joined_to e (Some k) e.serif

abbrev minus : ℕ → ℤ
minus n = neg_ℤ (pos n)

-- ---- what the loops come to
-- positions and the anchor
record Told : Type 0 where
  places : List ℤ
  anchor : Link

abbrev told : List ℤ → Link → Told
told ps a = record { places = ps; anchor = a }

abbrev run : Group → ℕ → Link → List Edge → State
run group count anchor es = remaining_of (record { dim = Vertical; major_dir = Directions.None; edges = es; len = length es }) group count anchor

abbrev latin : Link → List Edge → Told
latin anchor es = told (map (λ (e : Edge). e.pos) (run Default 0 anchor es).axis.edges) (run Default 0 anchor es).past.anchor

abbrev cjk : ℕ → List Edge → List ℤ
cjk count es = map (λ (e : Edge). e.pos) (run Cjk count None es).axis.edges

abbrev marks_of : State → List Mark
marks_of s = map (λ (e : Edge). e.mark) s.axis.edges

abbrev dones_of : State → List Bool
dones_of s = map (λ (e : Edge). e.flags.done) s.axis.edges

abbrev beyond : Link → List Edge → Bool
beyond anchor es = (run Default 0 anchor es).past.beyond

-- the largest position of an edge
abbrev most : ℤ
most = pos 16777216

-- the anchor is edge 0
abbrev zeroth : Link
zeroth = Some 0

record Worked : Type 0 where
  -- a serif at 79 from its base goes with it, at 80 and 81 it does not
  serif_near : latin zeroth (done (pos 0) (pos 10) ∷ serif 0 (left (pos 79)) ∷ []) ≡ told (pos 10 ∷ pos 89 ∷ []) zeroth
  serif_at_80 : latin zeroth (done (pos 0) (pos 10) ∷ serif 0 (left (pos 80)) ∷ []) ≡ told (pos 10 ∷ pos 106 ∷ []) zeroth
  serif_at_81 : latin zeroth (done (pos 0) (pos 10) ∷ serif 0 (left (pos 81)) ∷ []) ≡ told (pos 10 ∷ pos 106 ∷ []) zeroth
  -- a base that is not done counts too, and so does the edge itself, which then stays where it is
  serif_undone : latin zeroth (done (pos 0) (pos 0) ∷ serif 2 (left (pos 30)) ∷ left (pos 50) ∷ []) ≡ told (pos 0 ∷ pos 30 ∷ pos 64 ∷ []) zeroth
  serif_itself : marks_of (run Default 0 None (serif 0 (left (pos 5)) ∷ [])) ≡ Marks.Serif ∷ []
  -- between two that are done, to the nearest; without an anchor it becomes it even there
  between : latin (Some 2) (done (pos 0) (pos 0) ∷ left (pos 51) ∷ done (pos 100) (pos 128) ∷ []) ≡ told (pos 0 ∷ pos 65 ∷ pos 128 ∷ []) (Some 2)
  between_free : latin None (done (pos 0) (pos 0) ∷ left (pos 51) ∷ done (pos 100) (pos 128) ∷ []) ≡ told (pos 0 ∷ pos 64 ∷ pos 128 ∷ []) (Some 1)
  between_low : latin (Some 2) (done (pos 0) (pos 0) ∷ left (pos 31) ∷ done (pos 100) (pos 128) ∷ []) ≡ told (pos 0 ∷ pos 40 ∷ pos 128 ∷ []) (Some 2)
  free_low : latin None (done (pos 0) (pos 0) ∷ left (pos 31) ∷ done (pos 100) (pos 128) ∷ []) ≡ told (pos 0 ∷ pos 0 ∷ pos 128 ∷ []) (Some 1)
  -- a half goes away from zero
  half_up : latin zeroth (done (pos 0) (pos 0) ∷ left (pos 1) ∷ done (pos 2) (pos 1) ∷ []) ≡ told (pos 0 ∷ pos 1 ∷ pos 1 ∷ []) zeroth
  half_down : latin zeroth (done (pos 0) (pos 0) ∷ left (pos 1) ∷ done (pos 2) (minus 1) ∷ []) ≡ told (pos 0 ∷ minus 1 ∷ minus 1 ∷ []) zeroth
  -- two at one place: that of the one before
  one_place : latin zeroth (done (pos 7) (pos 3) ∷ left (pos 7) ∷ done (pos 7) (pos 9) ∷ []) ≡ told (pos 3 ∷ pos 3 ∷ pos 9 ∷ []) zeroth
  -- by the anchor: the distance and 16, down to a multiple of 32, behind it and in front of it
  spaced_15 : latin zeroth (done (pos 0) (pos 0) ∷ left (pos 15) ∷ []) ≡ told (pos 0 ∷ pos 0 ∷ []) zeroth
  spaced_16 : latin zeroth (done (pos 0) (pos 0) ∷ left (pos 16) ∷ []) ≡ told (pos 0 ∷ pos 32 ∷ []) zeroth
  spaced_47 : latin zeroth (done (pos 0) (pos 0) ∷ left (pos 47) ∷ []) ≡ told (pos 0 ∷ pos 32 ∷ []) zeroth
  spaced_48 : latin zeroth (done (pos 0) (pos 0) ∷ left (pos 48) ∷ []) ≡ told (pos 0 ∷ pos 64 ∷ []) zeroth
  front_16 : latin (Some 1) (left (minus 16) ∷ done (pos 0) (pos 0) ∷ []) ≡ told (pos 0 ∷ pos 0 ∷ []) (Some 1)
  front_17 : latin (Some 1) (left (minus 17) ∷ done (pos 0) (pos 0) ∷ []) ≡ told (minus 32 ∷ pos 0 ∷ []) (Some 1)
  front_49 : latin (Some 1) (left (minus 49) ∷ done (pos 0) (pos 0) ∷ []) ≡ told (minus 64 ∷ pos 0 ∷ []) (Some 1)
  -- nothing done: the first becomes the anchor, the others follow it
  nothing_done : latin None (left (pos 40) ∷ left (pos 70) ∷ left (pos 100) ∷ []) ≡ told (pos 64 ∷ pos 96 ∷ pos 128 ∷ []) zeroth
  given_marks : marks_of (run Default 0 None (left (pos 40) ∷ left (pos 70) ∷ serif 1 (left (pos 100)) ∷ []))
      ≡ Marks.RemainingAnchor ∷ Marks.Spaced ∷ Marks.Serif ∷ []
  all_done : dones_of (run Default 0 None (left (pos 40) ∷ left (pos 70) ∷ serif 1 (left (pos 100)) ∷ [])) ≡ true ∷ true ∷ true ∷ []
  -- edges turned by the call: the second is between the new anchor and the third
  turned : latin None (left (pos 40) ∷ left (pos 50) ∷ done (pos 60) (pos 60) ∷ []) ≡ told (pos 64 ∷ pos 62 ∷ pos 60 ∷ []) zeroth
  turned_two : latin None (left (pos 0) ∷ done (pos 1) (minus 1) ∷ []) ≡ told (pos 0 ∷ minus 1 ∷ []) zeroth
  -- by its serif at 54, held to 100 before it and then to 64 behind it; by a link that is the previous edge not at all
  held : latin None (done (pos 0) (pos 100) ∷ link 2 (serif 2 (left (pos 10))) ∷ done (pos 20) (pos 64) ∷ [])
      ≡ told (pos 100 ∷ pos 64 ∷ pos 64 ∷ []) None
  held_mark : marks_of (run Default 0 None (done (pos 0) (pos 100) ∷ link 2 (serif 2 (left (pos 10))) ∷ done (pos 20) (pos 64) ∷ []))
      ≡ Marks.Stem ∷ Marks.Bound ∷ Marks.Stem ∷ []
  not_held : latin None (done (pos 0) (pos 100) ∷ link 0 (serif 2 (left (pos 10))) ∷ done (pos 20) (pos 64) ∷ [])
      ≡ told (pos 100 ∷ pos 54 ∷ pos 64 ∷ []) None
  -- CJK between two by font positions, not done; with a count of 0 not at all; by its serif, done
  cjk-between : cjk 1 (at (left_at 0 0) (pos 10) ∷ left_at 10 7 ∷ at (left_at 40 28) (pos 50) ∷ []) ≡ pos 10 ∷ pos 20 ∷ pos 50 ∷ []
  cjk_undone : dones_of (run Cjk 1 None (at (left_at 0 0) (pos 10) ∷ left_at 10 7 ∷ at (left_at 40 28) (pos 50) ∷ [])) ≡ true ∷ false ∷ true ∷ []
  cjk_none_left : cjk 0 (at (left_at 0 0) (pos 10) ∷ left_at 10 7 ∷ at (left_at 40 28) (pos 50) ∷ []) ≡ pos 10 ∷ pos 7 ∷ pos 50 ∷ []
  cjk_serif : cjk 1 (at (left_at 0 0) (pos 10) ∷ serif 2 (left_at 10 7) ∷ at (left_at 40 28) (pos 50) ∷ []) ≡ pos 10 ∷ pos 29 ∷ pos 50 ∷ []
  cjk_serif_done : dones_of (run Cjk 1 None (at (left_at 0 0) (pos 10) ∷ serif 2 (left_at 10 7) ∷ at (left_at 40 28) (pos 50) ∷ [])) ≡ true ∷ true ∷ true ∷ []
  -- with one alone, and with none
  cjk_before : cjk 1 (at (left_at 0 0) (pos 10) ∷ left_at 10 7 ∷ []) ≡ pos 10 ∷ pos 17 ∷ []
  cjk_behind : cjk 1 (left_at 10 7 ∷ at (left_at 40 28) (pos 50) ∷ []) ≡ pos 29 ∷ pos 50 ∷ []
  cjk_alone : cjk 1 (left_at 10 7 ∷ []) ≡ pos 7 ∷ []
  -- positions that no edge may have: by a serif, by the anchor, between two that are not in order, and one that would be held to its neighbour
  serif_beyond : beyond zeroth (done (pos 0) most ∷ serif 0 (left (pos 1)) ∷ []) ≡ true
  serif_within : beyond zeroth (done (pos 0) most ∷ serif 0 (left (pos 0)) ∷ []) ≡ false
  anchor_beyond : beyond zeroth (done (pos 0) most ∷ left (pos 16) ∷ []) ≡ true
  anchor_within : beyond zeroth (done (pos 0) most ∷ left (pos 15) ∷ []) ≡ false
  between_beyond : beyond zeroth (done (pos 0) (pos 0) ∷ left (pos 2) ∷ done (pos 1) most ∷ []) ≡ true
  held_beyond : beyond zeroth (done (pos 0) (minus 16777216) ∷ link 2 (serif 0 (left (minus 1))) ∷ done (pos 3) (pos 0) ∷ []) ≡ true

worked : Worked
unfolding visits pass_of visit carried_out stored plan_of others_plan serifs_plan by_serif by_anchor by_bounds near_of done_from done_before between_pos spaced_pos
    half_floor serif_pos
    lower_bound upper_bound has_passed neighbour held_to bound_by adjusted pix_floor pix_round mul_div rounded_z rounded
worked = record {
  serif_near = refl;
  serif_at_80 = refl;
  serif_at_81 = refl;
  serif_undone = refl;
  serif_itself = refl;
  between = refl;
  between_free = refl;
  between_low = refl;
  free_low = refl;
  half_up = refl;
  half_down = refl;
  one_place = refl;
  spaced_15 = refl;
  spaced_16 = refl;
  spaced_47 = refl;
  spaced_48 = refl;
  front_16 = refl;
  front_17 = refl;
  front_49 = refl;
  nothing_done = refl;
  given_marks = refl;
  all_done = refl;
  turned = refl;
  turned_two = refl;
  held = refl;
  held_mark = refl;
  not_held = refl;
  cjk-between = refl;
  cjk_undone = refl;
  cjk_none_left = refl;
  cjk_serif = refl;
  cjk_serif_done = refl;
  cjk_before = refl;
  cjk_behind = refl;
  cjk_alone = refl;
  serif_beyond = refl;
  serif_within = refl;
  anchor_beyond = refl;
  anchor_within = refl;
  between_beyond = refl;
  held_beyond = refl;
}
