-- Pixel rows and lost pairs worked out by hand.
use Rattle.std.specs.Prelude.{None, Some}
use mathlib.Core.Path.{◌≡◌, refl}
use mathlib.Core.Bool.{Bool, true, false}
use mathlib.Core.List.{List, [], ◌∷◌}
use Prim.Native.Nat.{ℕ}
use lib.IntN.{ℤ, pos, neg_ℤ}
use lib.ListN.{length}
use Rattle.axis.specs.declared.edge.Axis.{Axis}
use Rattle.axis.specs.declared.edge.Edge.{Edge}
use Rattle.axis.specs.declared.kinds.Dimension.TheVariants as Dimensions
use Rattle.axis.specs.declared.kinds.Direction.TheVariants as Directions
use Rattle.axis.specs.declared.kinds.Mark.TheVariants as Marks
use Rattle.axis.specs.Edge.{fresh_edge, joined_to, placed, finished}
use Rattle.axis.specs.Link.{links_to}
use Rattle.axis.specs.Refusals.{link_holds, blue_holds, every, edge_indices, edge_numbers, edges_indices, edges_numbers}
use Rattle.refusals.specs.Refusal.{refusal}
use Rattle.gaps.specs.Answer.{Gaps}
use Rattle.gaps.specs.Gaps.{row_from, rows, gone, lost_gap, lost_stem, lost, last_of, no_pair, pair_to, ends, counted, first_of, found_to, found_in, gaps_tests}

-- ---- pixel rows: their centres are .. -96, -32, 32, 96 ..
-- a centre on the lower side is between, one on the upper side is not
lower-side : rows (pos 32) (pos 33) ≡ pos 1
unfolding row_from rows
lower-side = refl

upper-side : rows (pos 31) (pos 32) ≡ pos 0
unfolding row_from rows
upper-side = refl

-- below 0 too
lower-below : rows (neg_ℤ (pos 32)) (neg_ℤ (pos 31)) ≡ pos 1
unfolding row_from rows
lower-below = refl

upper-below : rows (neg_ℤ (pos 33)) (neg_ℤ (pos 32)) ≡ pos 0
unfolding row_from rows
upper-below = refl

across : rows (neg_ℤ (pos 100)) (pos 100) ≡ pos 4
unfolding row_from rows
across = refl

-- none at one place, and none from a higher place to a lower one
no-width : rows (pos 32) (pos 32) ≡ pos 0
unfolding row_from rows
no-width = refl

downward : rows (pos 200) (pos 0) ≡ pos 0
unfolding row_from rows
downward = refl

-- ---- edges
-- an edge that was at o and is at p, placed or left over, and linked
abbrev over : ℕ → ℤ → Edge
over o p = placed (fresh_edge (pos 0) (pos o) Directions.Up 0) p Marks.Nothing

abbrev set : ℕ → ℕ → Edge
set o p = finished (over o (pos p))

abbrev linked_to : ℕ → Edge → Edge
linked_to k e = joined_to e (Some k) None

-- an axis of some edges
abbrev axis_of : List Edge → Axis
axis_of es = record { dim = Dimensions.Vertical; major_dir = Directions.Up; edges = es; len = length es }

-- what is found, of all done edges or of those with a link
abbrev found : ℕ → List Edge → Gaps
found least es = found_in (pos least) false (axis_of es)

abbrev found_linked : ℕ → List Edge → Gaps
found_linked least es = found_in (pos least) true (axis_of es)

-- nothing lost with so many edges that are not done, or so many gaps and stems, and the first of them
abbrev nothing : ℕ → Gaps
nothing undone = record { answer = 0; count = 0; pair = no_pair; stems = 0; not_done = undone }

abbrev losing : ℕ → ℕ → ℕ → ℕ → ℕ → ℤ → ℤ → Gaps
losing gaps stems undone i j before after = record {
  answer = 0;
  count = gaps;
  pair = record { first = Some i; second = Some j; before = before; after = after };
  stems = stems;
  not_done = undone;
}

-- ---- two tables as fitting with Keep leaves them, their first edge on a zone
abbrev bars : List Edge
bars = set 0 0 ∷ linked_to 2 (set 87 119) ∷ linked_to 1 (set 157 189) ∷ linked_to 4 (set 223 192) ∷ linked_to 3 (set 287 256) ∷ []

abbrev three : List Edge
three = set 0 0 ∷ linked_to 2 (set 100 130) ∷ linked_to 1 (set 160 190) ∷ over 200 (pos 200) ∷ linked_to 5 (set 289 258) ∷ linked_to 4 (set 349 318) ∷ []

-- two bars fuse: of 66 units 3 are left, and no row
bars-fuse : found 32 bars ≡ losing 1 0 0 2 3 (pos 66) (pos 3)
unfolding row_from rows gone lost_gap lost_stem lost last_of pair_to ends counted first_of found_to links_to
bars-fuse = refl

-- a 3 becomes an 8: its terminal's end is not done, which alone is told
three-told : found 32 three ≡ nothing 1
unfolding row_from rows gone lost_gap lost_stem lost last_of pair_to ends counted first_of found_to links_to
three-told = refl

-- the same of edges with a link
bars-linked : found_linked 32 bars ≡ losing 1 0 0 2 3 (pos 66) (pos 3)
unfolding row_from rows gone lost_gap lost_stem lost last_of pair_to ends counted first_of found_to links_to
bars-linked = refl

-- ---- gaps
-- a gap that keeps a row, and one of the same width that does not
kept : found 0 (set 0 0 ∷ set 64 33 ∷ []) ≡ nothing 0
unfolding row_from rows gone lost_gap lost_stem lost last_of pair_to ends counted first_of found_to links_to
kept = refl

blank : found 0 (set 0 33 ∷ set 64 66 ∷ []) ≡ losing 1 0 0 0 1 (pos 64) (pos 33)
unfolding row_from rows gone lost_gap lost_stem lost last_of pair_to ends counted first_of found_to links_to
blank = refl

-- one that is closed, and one that is turned
closed : found 64 (set 0 10 ∷ set 64 10 ∷ []) ≡ losing 1 0 0 0 1 (pos 64) (pos 0)
unfolding row_from rows gone lost_gap lost_stem lost last_of pair_to ends counted first_of found_to links_to
closed = refl

turned : found 10 (set 0 64 ∷ set 10 0 ∷ []) ≡ losing 1 0 0 0 1 (pos 10) (neg_ℤ (pos 64))
unfolding row_from rows gone lost_gap lost_stem lost last_of pair_to ends counted first_of found_to links_to
turned = refl

-- the same, narrower than asked for
narrow : found 11 (set 0 64 ∷ set 10 0 ∷ []) ≡ nothing 0
unfolding row_from rows gone lost_gap lost_stem lost last_of pair_to ends counted first_of found_to links_to
narrow = refl

-- two edges that were at one place: there they may be, but not turned
together : found 0 (set 5 9 ∷ set 5 9 ∷ []) ≡ nothing 0
unfolding row_from rows gone lost_gap lost_stem lost last_of pair_to ends counted first_of found_to links_to
together = refl

apart : found 0 (set 5 9 ∷ set 5 8 ∷ []) ≡ losing 1 0 0 0 1 (pos 0) (neg_ℤ (pos 1))
unfolding row_from rows gone lost_gap lost_stem lost last_of pair_to ends counted first_of found_to links_to
apart = refl

-- no edge, no edge done, one edge done
none : found 0 [] ≡ nothing 0
unfolding row_from rows gone lost_gap lost_stem lost last_of pair_to ends counted first_of found_to links_to
none = refl

none_done : found 0 (over 0 (pos 64) ∷ over 10 (pos 0) ∷ []) ≡ nothing 2
unfolding row_from rows gone lost_gap lost_stem lost last_of pair_to ends counted first_of found_to links_to
none_done = refl

one-done : found 0 (over 0 (pos 64) ∷ set 10 0 ∷ []) ≡ nothing 1
unfolding row_from rows gone lost_gap lost_stem lost last_of pair_to ends counted first_of found_to links_to
one-done = refl

-- two gaps lost, the first across an edge that is not done, with a kept one between them
two-lost : found 1 (set 0 10 ∷ over 5 (pos 0) ∷ set 20 5 ∷ set 30 40 ∷ set 40 40 ∷ []) ≡ losing 2 0 1 0 2 (pos 20) (neg_ℤ (pos 5))
unfolding row_from rows gone lost_gap lost_stem lost last_of pair_to ends counted first_of found_to links_to
two-lost = refl

-- ---- stems
-- a stem without a row is lost, narrow as it may have been, whichever edge names the other; without a link it is a narrow gap
stem-up : found 64 (linked_to 1 (set 0 33) ∷ set 20 53 ∷ []) ≡ losing 0 1 0 0 1 (pos 20) (pos 20)
unfolding row_from rows gone lost_gap lost_stem lost last_of pair_to ends counted first_of found_to links_to
stem-up = refl

stem-down : found 64 (set 0 33 ∷ linked_to 0 (set 20 53) ∷ []) ≡ losing 0 1 0 0 1 (pos 20) (pos 20)
unfolding row_from rows gone lost_gap lost_stem lost last_of pair_to ends counted first_of found_to links_to
stem-down = refl

no-stem : found 64 (set 0 33 ∷ set 20 53 ∷ []) ≡ nothing 0
unfolding row_from rows gone lost_gap lost_stem lost last_of pair_to ends counted first_of found_to links_to
no-stem = refl

-- a gap and a stem lost, and the pair that is named is the first, of either kind
both : found 64 (set 0 33 ∷ linked_to 2 (set 64 40) ∷ linked_to 1 (set 84 60) ∷ []) ≡ losing 1 1 0 0 1 (pos 64) (pos 7)
unfolding row_from rows gone lost_gap lost_stem lost last_of pair_to ends counted first_of found_to links_to
both = refl

-- an edge without a link in a stem: counted, it parts the stem; not counted, the stem has its row
parted : found 10 (linked_to 2 (set 0 10) ∷ set 20 30 ∷ linked_to 0 (set 40 50) ∷ []) ≡ losing 1 0 0 0 1 (pos 20) (pos 20)
unfolding row_from rows gone lost_gap lost_stem lost last_of pair_to ends counted first_of found_to links_to
parted = refl

whole : found_linked 10 (linked_to 2 (set 0 10) ∷ set 20 30 ∷ linked_to 0 (set 40 50) ∷ []) ≡ nothing 0
unfolding row_from rows gone lost_gap lost_stem lost last_of pair_to ends counted first_of found_to links_to
whole = refl

-- ---- the refusal of two edges
abbrev answer : ℕ → List Edge → ℕ
answer least es = refusal (gaps_tests (axis_of es) (pos least))

taken : answer 65535 (set 0 10 ∷ set 20 5 ∷ []) ≡ 0
unfolding refusal link_holds blue_holds every edge_indices edge_numbers edges_indices edges_numbers
taken = refl

-- a width that is no width of units, a link beyond the edges, a position beyond its limit, and all of them
too_wide : answer 65536 (set 0 10 ∷ set 20 5 ∷ []) ≡ 2
unfolding refusal
too_wide = refl

beyond : answer 0 (set 0 10 ∷ linked_to 2 (set 20 5) ∷ []) ≡ 3
unfolding refusal link_holds every edge_indices edges_indices
beyond = refl

far : answer 0 (set 0 10 ∷ set 65536 5 ∷ []) ≡ 4
unfolding refusal link_holds blue_holds every edge_indices edge_numbers edges_indices edges_numbers
far = refl

in_order : answer 65536 (set 0 10 ∷ linked_to 2 (set 65536 5) ∷ []) ≡ 2
unfolding refusal
in_order = refl
