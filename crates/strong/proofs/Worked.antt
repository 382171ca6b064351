-- Strong points worked out by hand.
use mathlib.Core.Path.{◌≡◌, refl}
use mathlib.Core.List.{List, [], ◌∷◌}
use Prim.Native.Nat.{ℕ}
use lib.IntN.{ℤ, pos, neg_ℤ}
use lib.ListN.{length}
use Rattle.refusals.specs.Refusal.{refusal}
use Rattle.axis.specs.declared.edge.Axis.{Axis}
use Rattle.axis.specs.declared.edge.Edge.{Edge}
use Rattle.axis.specs.declared.kinds.Dimension.TheVariants as Dimensions
use Rattle.axis.specs.declared.kinds.Direction.TheVariants as Directions
use Rattle.axis.specs.declared.kinds.Mark.TheVariants as Marks
use Rattle.axis.specs.Edge.{fresh_edge, placed}
use Rattle.axis.specs.Limits.{most_pos}
use Rattle.axis.specs.Refusals.{link_holds, blue_holds, every, edge_indices, edge_numbers, edges_indices, edges_numbers}
use Rattle.fixed.specs.Point.{rounded, rounded_z, mul_fix, div_fix}
use Rattle.fixed.specs.Divide.{too_steep}
use Rattle.weak.specs.Weak.{coordinate_holds, coordinates_hold}
use Rattle.words.specs.Word.{firsts}
use Rattle.strong.specs.declared.place.Place.{Place}
use Rattle.strong.specs.declared.place.Place.TheVariants.{Stays, At, Beyond}
use Rattle.strong.specs.Strong.{
  one_by_one,
  by_halving,
  found,
  moved_with,
  between,
  on_or_before,
  place_of,
  strong_at,
  current_after,
  mark_after,
  is_placed,
  all_placed,
  Aligned,
  refused_by,
  align_strong,
}

-- an edge at the font position f that was at o and is at p, which need not be done
abbrev edge : ℤ → ℤ → ℤ → Edge
edge f o p = placed (fresh_edge f o Directions.Up 0) p Marks.Nothing

-- an axis of some edges
abbrev axis_of : List Edge → Axis
axis_of es = record { dim = Dimensions.Vertical; major_dir = Directions.Up; edges = es; len = length es }

-- where a point with the font position u and the original v comes to
abbrev comes : List Edge → ℤ → ℤ → Place
comes es u v = place_of (axis_of es) u v

-- ---- two edges
abbrev pair : List Edge
pair = edge (pos 0) (pos 0) (pos 0) ∷ edge (pos 100) (pos 64) (pos 128) ∷ []

-- between them
half-way : comes pair (pos 50) (pos 32) ≡ At (pos 64)
unfolding place_of found one_by_one by_halving on_or_before between moved_with too_steep mul_fix div_fix rounded_z rounded
half-way = refl

near-the-first : comes pair (pos 1) (pos 0) ≡ At (pos 1)
unfolding place_of found one_by_one by_halving on_or_before between moved_with too_steep mul_fix div_fix rounded_z rounded
near-the-first = refl

near-the-last : comes pair (pos 99) (pos 63) ≡ At (pos 127)
unfolding place_of found one_by_one by_halving on_or_before between moved_with too_steep mul_fix div_fix rounded_z rounded
near-the-last = refl

-- on the first, below it, on the last, and above it, with its original
on-the-first : comes pair (pos 0) (pos 3) ≡ At (pos 3)
unfolding place_of moved_with
on-the-first = refl

below-the-first : comes pair (neg_ℤ (pos 5)) (neg_ℤ (pos 3)) ≡ At (neg_ℤ (pos 3))
unfolding place_of moved_with
below-the-first = refl

on-the-last : comes pair (pos 100) (pos 70) ≡ At (pos 134)
unfolding place_of moved_with
on-the-last = refl

above-the-last : comes pair (pos 150) (pos 96) ≡ At (pos 160)
unfolding place_of moved_with
above-the-last = refl

-- halves are rounded away from zero
half_up : comes (edge (pos 0) (pos 0) (pos 0) ∷ edge (pos 2) (pos 2) (pos 1) ∷ []) (pos 1) (pos 1) ≡ At (pos 1)
unfolding place_of found one_by_one by_halving on_or_before between moved_with too_steep mul_fix div_fix rounded_z rounded
half_up = refl

half_down : comes (edge (pos 0) (pos 0) (pos 0) ∷ edge (pos 2) (pos 2) (neg_ℤ (pos 1)) ∷ []) (pos 1) (pos 1) ≡ At (neg_ℤ (pos 1))
unfolding place_of found one_by_one by_halving on_or_before between moved_with too_steep mul_fix div_fix rounded_z rounded
half_down = refl

-- ---- several edges at one font position
abbrev four : List Edge
four = edge (pos 0) (pos 0) (pos 0) ∷ edge (pos 10) (pos 0) (pos 5) ∷ edge (pos 10) (pos 0) (pos 7) ∷ edge (pos 20) (pos 0) (pos 20) ∷ []

at-nine : comes four (pos 9) (pos 0) ≡ At (pos 5)
unfolding place_of found one_by_one by_halving on_or_before between moved_with too_steep mul_fix div_fix rounded_z rounded
at-nine = refl

at-ten : comes four (pos 10) (pos 0) ≡ At (pos 5)
unfolding place_of found one_by_one by_halving on_or_before between moved_with too_steep mul_fix div_fix rounded_z rounded
at-ten = refl

at-eleven : comes four (pos 11) (pos 0) ≡ At (pos 8)
unfolding place_of found one_by_one by_halving on_or_before between moved_with too_steep mul_fix div_fix rounded_z rounded
at-eleven = refl

at-nineteen : comes four (pos 19) (pos 0) ≡ At (pos 19)
unfolding place_of found one_by_one by_halving on_or_before between moved_with too_steep mul_fix div_fix rounded_z rounded
at-nineteen = refl

-- at ten there are edges at 1, 2, .. of eight the first is found, and of nine the one that halving meets
abbrev tens : List Edge → List Edge
tens rest =
    edge (pos 0) (pos 0) (pos 0) ∷ edge (pos 10) (pos 0) (pos 1) ∷ edge (pos 10) (pos 0) (pos 2) ∷ edge (pos 10) (pos 0) (pos 3)
    ∷ edge (pos 10) (pos 0) (pos 4) ∷ edge (pos 10) (pos 0) (pos 5) ∷ edge (pos 10) (pos 0) (pos 6) ∷ rest

of-eight : comes (tens (edge (pos 20) (pos 0) (pos 7) ∷ [])) (pos 10) (pos 0) ≡ At (pos 1)
unfolding place_of found one_by_one by_halving on_or_before between moved_with too_steep mul_fix div_fix rounded_z rounded
of-eight = refl

of-nine : comes (tens (edge (pos 10) (pos 0) (pos 7) ∷ edge (pos 20) (pos 0) (pos 8) ∷ [])) (pos 10) (pos 0) ≡ At (pos 4)
unfolding place_of found one_by_one by_halving on_or_before between moved_with too_steep mul_fix div_fix rounded_z rounded
of-nine = refl

-- ---- one edge, and none
alone : comes (edge (pos 10) (pos 10) (pos 64) ∷ []) (pos 10) (pos 12) ≡ At (pos 66)
unfolding place_of moved_with
alone = refl

no_edge : comes [] (pos 10) (pos 12) ≡ Stays
unfolding place_of
no_edge = refl

-- ---- too steep, and too far
abbrev steep_to : ℕ → List Edge
steep_to p = edge (pos 0) (pos 0) (pos 0) ∷ edge (pos 2) (pos 2) (pos p) ∷ []

steepest-accepted : comes (steep_to 65535) (pos 1) (pos 1) ≡ At (pos 32768)
unfolding place_of found one_by_one by_halving on_or_before between moved_with too_steep mul_fix div_fix rounded_z rounded
steepest-accepted = refl

too-steep : comes (steep_to 65536) (pos 1) (pos 1) ≡ Beyond
unfolding place_of found one_by_one by_halving on_or_before between moved_with too_steep mul_fix div_fix rounded_z rounded
too-steep = refl

nothing-between : comes (steep_to 65536) (pos 2) (pos 2) ≡ At (pos 65536)
unfolding place_of moved_with
nothing-between = refl

farthest : comes (edge (pos 0) (pos 0) (pos most_pos) ∷ []) (pos 0) (pos 0) ≡ At (pos most_pos)
unfolding place_of moved_with
farthest = refl

too_far : comes (edge (pos 0) (pos 0) (pos most_pos) ∷ []) (pos 0) (pos 1) ≡ Beyond
unfolding place_of moved_with
too_far = refl

-- ---- the call: three points of which one is touched and one is weak
abbrev called : List Edge → List ℤ → List ℕ → Aligned
called es o t = align_strong (axis_of es) (pos 50 ∷ pos 50 ∷ pos 50 ∷ []) o (pos 7 ∷ pos 8 ∷ pos 9 ∷ []) t (0 ∷ 0 ∷ 3 ∷ [])

the-first-moves : called pair (pos 32 ∷ pos 32 ∷ pos 32 ∷ []) (0 ∷ 2 ∷ 0 ∷ []) ≡ record {
  answer =
      0;
  currents = pos 64 ∷ pos 8 ∷ pos 9 ∷ [];
  touched = 1 ∷ 2 ∷ 0 ∷ [];
}
unfolding align_strong refusal link_holds blue_holds every edge_indices edge_numbers edges_indices edges_numbers coordinate_holds coordinates_hold firsts all_placed
    is_placed strong_at current_after mark_after place_of found one_by_one by_halving on_or_before between moved_with too_steep mul_fix div_fix rounded_z rounded
the-first-moves = refl

-- a list of another length, in front of a coordinate out of range, in front of a point that is too steep
another-length : (called (steep_to 65536) (pos 65536 ∷ []) (0 ∷ 2 ∷ 0 ∷ [])).answer ≡ 1
unfolding align_strong refusal
another-length = refl

out_of_range : (called (edge (pos 0) (pos 0) (pos 0) ∷ edge (pos 51) (pos 0) (pos most_pos) ∷ []) (pos 65536 ∷ pos 32 ∷ pos 32 ∷ []) (0 ∷ 2 ∷ 0 ∷ [])).answer ≡ 4
unfolding align_strong refusal link_holds blue_holds every edge_indices edge_numbers edges_indices edges_numbers coordinate_holds coordinates_hold
out_of_range = refl

refused : called (edge (pos 0) (pos 0) (pos 0) ∷ edge (pos 51) (pos 0) (pos most_pos) ∷ []) (pos 32 ∷ pos 32 ∷ pos 32 ∷ []) (0 ∷ 2 ∷ 0 ∷ [])
    ≡ refused_by (pos 7 ∷ pos 8 ∷ pos 9 ∷ []) (0 ∷ 2 ∷ 0 ∷ []) 8
unfolding align_strong refusal link_holds blue_holds every edge_indices edge_numbers edges_indices edges_numbers coordinate_holds coordinates_hold all_placed is_placed
    strong_at place_of found one_by_one by_halving on_or_before between moved_with too_steep div_fix rounded_z rounded
refused = refl
