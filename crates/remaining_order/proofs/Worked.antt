-- Tables by hand that are out of order behind remaining edges, small ones of each kind, and what the guard then tells of them: it names them, with least 0 and
-- links not asked for.
use Rattle.std.specs.Prelude.{None, Some}
use mathlib.Core.Path.{◌≡◌, refl}
use mathlib.Core.Bool.{false}
use mathlib.Core.List.{List, [], ◌∷◌, map}
use Prim.Native.Nat.{ℕ}
use lib.IntN.{ℤ, pos}
use lib.ListN.{length}
use Rattle.signed.specs.Table.{minus}
use Rattle.refusals.specs.Refusal.{refusal}
use Rattle.fixed.specs.Point.{rounded, rounded_z}
use Rattle.fixed.specs.Pixel.{pix_floor, pix_round}
use Rattle.fixed_ratio.specs.Ratio.{mul_div}
use Rattle.axis.specs.declared.kinds.Dimension.TheVariants.{Vertical}
use Rattle.axis.specs.declared.kinds.Direction.TheVariants as Directions
use Rattle.axis.specs.declared.kinds.Group.TheVariants.{Default}
use Rattle.axis.specs.Link.{Link}
use Rattle.axis.specs.declared.kinds.Mark.TheVariants.{Stem}
use Rattle.axis.specs.declared.edge.Edge.{Edge}
use Rattle.axis.specs.Edge.{fresh_edge, placed, finished, joined_to}
use Rattle.axis.specs.Link.{links_to}
use Rattle.axis.specs.Refusals.{link_holds, blue_holds, every, edge_indices, edge_numbers, edges_indices, edges_numbers}
use Rattle.axis.specs.Visits.{visits}
use Rattle.place.specs.Placing.{serif_pos, lower_bound, upper_bound, has_passed, neighbour, held_to, bound_by, adjusted}
use Rattle.gaps.specs.Answer.{Gaps}
use Rattle.gaps.specs.Gaps.{row_from, rows, gone, lost_gap, lost_stem, lost, last_of, pair_to, ends, counted, first_of, found_to, lost_gaps}
use Rattle.remaining.specs.Plan.{half_floor, spaced_pos, between_pos}
use Rattle.remaining.specs.Remaining.{
  done_before,
  done_from,
  near_of,
  by_bounds,
  by_anchor,
  by_serif,
  plan_of,
  stored,
  carried_out,
  visit,
  pass_of,
  Remaining,
  align_remaining_edges,
}

-- ---- edges
-- one that is left, by its opos, and one that is done, at a position
abbrev left : ℤ → Edge
left o = fresh_edge (pos 0) o Directions.None 0

abbrev done : ℤ → ℤ → Edge
done o p = finished (placed (left o) p Stem)

-- with a serif, and with a link
abbrev serif : ℕ → Edge → Edge
serif k e = joined_to e e.link (Some k)

abbrev link : ℕ → Edge → Edge
link k e = joined_to e (Some k) e.serif

-- ---- what they come to
abbrev behind : Link → List Edge → Remaining
behind anchor es = align_remaining_edges (record { dim = Vertical; major_dir = Directions.None; edges = es; len = length es }) Default 0 anchor

-- the answer, the positions, and what the guard then tells with least 0 of all done edges
record Told : Type 0 where
  answer : ℕ
  places : List ℤ
  guard : Gaps

abbrev told : ℕ → List ℤ → Gaps → Told
told k ps g = record { answer = k; places = ps; guard = g }

abbrev guarded : Link → List Edge → Told
guarded anchor es =
    told (behind anchor es).answer (map (λ (e : Edge). e.pos) (behind anchor es).axis.edges) (lost_gaps (behind anchor es).axis (pos 0) false)

-- so many gaps lost, and the first of them
abbrev losing : ℕ → ℕ → ℕ → ℤ → ℤ → Gaps
losing gaps i j before after =
    record { answer = 0; count = gaps; pair = record { first = Some i; second = Some j; before = before; after = after }; stems = 0; not_done = 0 }

abbrev zeroth : Link
zeroth = Some 0

record Worked : Type 0 where
  -- no anchor: the first edge becomes it, above the one that is done, and the second comes between the two
  turned : guarded None (left (pos 40) ∷ left (pos 50) ∷ done (pos 60) (pos 60) ∷ [])
      ≡ told 0 (pos 64 ∷ pos 62 ∷ pos 60 ∷ []) (losing 2 0 1 (pos 10) (minus 2))
  turned_two : guarded None (left (pos 0) ∷ done (pos 1) (minus 1) ∷ []) ≡ told 0 (pos 0 ∷ minus 1 ∷ []) (losing 1 0 1 (pos 1) (minus 1))
  -- a serif alone: by an edge that is not done, which then becomes the anchor
  near-serif : guarded None (serif 1 (left (pos 1)) ∷ left (pos 2) ∷ []) ≡ told 0 (pos 1 ∷ pos 0 ∷ []) (losing 1 0 1 (pos 1) (minus 1))
  -- the place by the anchor is above the first done edge
  below : guarded (Some 2) (left (minus 3) ∷ done (pos 0) (minus 5) ∷ done (pos 2) (pos 0) ∷ [])
      ≡ told 0 (pos 0 ∷ minus 5 ∷ pos 0 ∷ []) (losing 2 0 1 (pos 3) (minus 5))
  -- it is below the last done edge
  above : guarded zeroth (done (minus 3) (minus 2) ∷ done (pos 0) (minus 1) ∷ left (pos 1) ∷ [])
      ≡ told 0 (minus 2 ∷ minus 1 ∷ minus 2 ∷ []) (losing 2 0 1 (pos 3) (pos 1))
  -- the same where the last done edge is further away; and with a link to edge 0, which is far from that: it is held to it, and all are in order
  above_far : guarded zeroth (done (minus 30) (minus 40) ∷ done (pos 0) (minus 1) ∷ left (pos 1) ∷ [])
      ≡ told 0 (minus 40 ∷ minus 1 ∷ minus 8 ∷ []) (losing 1 1 2 (pos 1) (minus 7))
  above_held : guarded zeroth (done (minus 30) (minus 40) ∷ done (pos 0) (minus 1) ∷ link 0 (left (pos 1)) ∷ [])
      ≡ told 0 (minus 40 ∷ minus 1 ∷ minus 1 ∷ []) (losing 1 1 2 (pos 1) (pos 0))
  -- below the first done edge a link mends nothing: edge 0 is held to none
  below_linked : guarded (Some 2) (link 2 (left (minus 3)) ∷ done (pos 0) (minus 5) ∷ done (pos 2) (pos 0) ∷ [])
      ≡ told 0 (pos 0 ∷ minus 5 ∷ pos 0 ∷ []) (losing 2 0 1 (pos 3) (minus 5))

worked : Worked
unfolding visits pass_of visit carried_out stored plan_of by_serif by_anchor by_bounds near_of done_from done_before between_pos spaced_pos half_floor serif_pos
    align_remaining_edges refusal
    link_holds blue_holds every edge_indices edge_numbers edges_indices edges_numbers lower_bound upper_bound has_passed neighbour held_to bound_by adjusted pix_floor
    pix_round mul_div rounded_z rounded
    row_from rows gone lost_gap lost_stem lost last_of pair_to ends counted first_of found_to links_to lost_gaps
worked = record {
  turned = refl;
  turned_two = refl;
  near-serif = refl;
  below = refl;
  above = refl;
  above_far = refl;
  above_held = refl;
  below_linked = refl;
}
