-- Rows by hand, small ones that tell the order of their steps: remaining edges before the guard, and weak points of every contour.
use Rattle.std.specs.Prelude.{None}
use mathlib.Core.Path.{◌≡◌, refl}
use mathlib.Core.List.{List, [], ◌∷◌, ◌++◌}
use lib.IntN.{ℤ, pos, neg_ℤ}
use Rattle.refusals.specs.Refusal.{refusal}
use Rattle.fixed.specs.Point.{rounded, rounded_z}
use Rattle.fixed.specs.Divide.{too_steep}
use Rattle.fixed.specs.Pixel.{pix_floor, pix_round}
use Rattle.fixed_ratio.specs.Ratio.{mul_div}
use Rattle.axis.specs.Link.{links_to}
use Rattle.axis.specs.Refusals.{link_holds, blue_holds, every, edge_indices, edge_numbers, edges_indices, edges_numbers}
use Rattle.axis.specs.Visits.{visits}
use Rattle.weak_contour.specs.Contour.{
  first_touched,
  last_touched,
  touched_before,
  touched_behind,
  references,
  first_of as first_ref,
  second_of as second_ref,
  shifted_at,
  followed,
  weak_at,
  steep_between,
  steep_by,
  steep_followed,
  steep_at,
}
use Rattle.weak.specs.Weak.{ends_hold, coordinate_holds, coordinates_hold, contour_of, steep_on, gentle_from, gentle, on_contour, aligned_at, list_of, result}
use Rattle.place.specs.Placing.{serif_pos, lower_bound, upper_bound, has_passed, neighbour, held_to, bound_by, adjusted}
use Rattle.gaps.specs.Gaps.{row_from, rows, gone, lost_gap, lost_stem, lost, last_of, pair_to, ends, counted, first_of, found_to, lost_gaps}
use Rattle.remaining.specs.Plan.{half_floor, spaced_pos, between_pos}
use Rattle.remaining.specs.Remaining.{done_before, done_from, near_of, by_bounds, by_anchor, by_serif, plan_of, stored, carried_out, visit, pass_of, align_remaining_edges}
use Rattle.words.specs.Word.{written, firsts, joined, table}
use Rattle.words.specs.Field.{short_of, choice_of, link_of, direction_of, mark_of, flags_of, blue_of, dimension_of, group_of, rule_of, flags_word}
use Rattle.words.specs.Edge.{edge_from, axis_run, flat_axis, edge_words, edges_over}
use Rattle.edge_points.specs.EdgePoints.{Points}
use Rattle.fit.specs.declared.numbers.Numbers.{Numbers}
use Rattle.fit.specs.Numbers.{numbers_of}
use Rattle.fit.specs.Edges.{then_guard, is_left, remaining_where, then_remaining}
use Rattle.fit.specs.Points.{then_weak}
use Rattle.fit.specs.Fit.{told_words}

-- the words of an edge by its opos, its pos and its flags, with no link, no serif and no zone
abbrev edge : ℤ → ℤ → ℤ → List ℤ
edge o p flags = pos 0 ∷ o ∷ p ∷ flags ∷ pos 0 ∷ pos 0 ∷ pos 0 ∷ neg_ℤ (pos 1) ∷ neg_ℤ (pos 1) ∷ pos 0 ∷ pos 0 ∷ pos 0 ∷ []

-- vertical, default group, Keep; the guard asks for every width and no links
abbrev heights : Numbers
heights = numbers_of (pos 1 ∷ pos 0 ∷ pos 0 ∷ pos 1 ∷ pos 0 ∷ pos 0 ∷ pos 0 ∷ pos 0 ∷ pos 0 ∷ [])

-- two edges that stems passed over, below one that is done: they come above it, and the guard, asked behind them, tells two gaps lost and none not done
guarded : told_words (then_remaining heights 2 None (edge (pos 40) (pos 40) (pos 0) ++ (edge (pos 50) (pos 50) (pos 0) ++ edge (pos 60) (pos 60) (pos 4)))
    ).told
    ≡ pos 2 ∷ pos 0 ∷ pos 0 ∷ pos 0 ∷ pos 1 ∷ pos 10 ∷ neg_ℤ (pos 2) ∷ pos 2 ∷ pos 0 ∷ []
unfolding written firsts joined table short_of choice_of link_of direction_of mark_of flags_of blue_of dimension_of group_of rule_of flags_word edge_from axis_run flat_axis
    edge_words edges_over then_guard is_left
    remaining_where then_remaining visits pass_of visit carried_out stored plan_of by_serif by_anchor by_bounds near_of done_from done_before between_pos spaced_pos
    half_floor serif_pos align_remaining_edges refusal
    link_holds blue_holds every edge_indices edge_numbers edges_indices edges_numbers lower_bound upper_bound has_passed neighbour held_to bound_by adjusted pix_floor
    pix_round mul_div rounded_z rounded
    row_from rows gone lost_gap lost_stem lost last_of pair_to ends counted first_of found_to links_to lost_gaps
guarded = refl

-- two contours of two points, one of each touched and moved: the others follow on both
every-contour : (then_weak (pos 0 ∷ pos 10 ∷ pos 0 ∷ pos 10 ∷ []) (1 ∷ 3 ∷ [])
    (record { currents = pos 5 ∷ pos 10 ∷ pos 7 ∷ pos 10 ∷ []; touched = 1 ∷ 0 ∷ 1 ∷ 0 ∷ [] })).points.currents
    ≡ pos 5 ∷ pos 15 ∷ pos 7 ∷ pos 17 ∷ []
unfolding refusal ends_hold coordinate_holds coordinates_hold contour_of references touched_before touched_behind first_touched last_touched gentle gentle_from steep_on
    steep_at steep_followed steep_by steep_between
    first_ref second_ref too_steep shifted_at followed weak_at on_contour aligned_at list_of result
every-contour = refl
