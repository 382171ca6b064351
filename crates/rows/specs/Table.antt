-- The starred rows of document 01, "Rows that show both sides", and that the definitions give them.
use Rattle.std.specs.Prelude.{None, Some}
use Rattle.std.specs.Prelude.{ℕ, true, false, List, [], ◌∷◌, pos, refl}
use Rattle.signed.specs.Table.{minus}
use Rattle.refusals.specs.Refusal.{refusal}
use Rattle.fixed.specs.declared.width.WidthRule.TheVariants.{Keep}
use Rattle.fixed.specs.Pixel.{pix_floor, pix_round}
use Rattle.fixed.specs.Width.{rule_holds, fitted_width}
use Rattle.fixed.specs.Point.{rounded, rounded_z, mul_fix, div_fix, derived}
use Rattle.fixed.specs.Divide.{too_steep}
use Rattle.weak_contour.specs.Contour.{first_touched, last_touched, touched_before, touched_behind, references, first_of, second_of, interpolated, between_at, shifted_at, followed, weak_at, steep_between, steep_by, steep_followed, steep_at}
use Rattle.weak.specs.Weak.{ends_hold, coordinate_holds, coordinates_hold, contour_of, steep_on, gentle_from, gentle, on_contour, aligned_at, list_of, result}
use Rattle.axis.specs.declared.kinds.Dimension.TheVariants.{Vertical}
use Rattle.axis.specs.declared.kinds.Direction.{Direction}
use Rattle.axis.specs.declared.kinds.Direction.TheVariants as Directions
use Rattle.axis.specs.declared.kinds.Direction.TheVariants.{Up, Down}
use Rattle.axis.specs.Link.{Link}
use Rattle.axis.specs.declared.kinds.Mark.{Mark}
use Rattle.axis.specs.declared.kinds.Mark.TheVariants as Marks
use Rattle.axis.specs.declared.kinds.Group.TheVariants.{Default, Cjk}
use Rattle.axis.specs.declared.edge.Edge.{Edge}
use Rattle.axis.specs.declared.segment.Segment.{Segment}
use Rattle.axis.specs.Direction as D
use Rattle.axis.specs.Flags.{normal}
use Rattle.axis.specs.Link.{links_to}
use Rattle.axis.specs.Edge.{fresh_edge, empty_edge, placed, finished, joined_to}
use Rattle.axis.specs.Refusals.{link_holds, blue_holds, every, edge_indices, edge_numbers, edges_indices, edges_numbers}
use Rattle.axis.specs.Refusals.{segment_indices, segment_next, segment_numbers, segments_indices, segments_nexts, segments_numbers}
use Rattle.axis.specs.Visits.{visits}
use Rattle.build.specs.Building.{distance_threshold}
use Rattle.link.specs.Loops.{turns, till}
use Rattle.link.specs.Pairs as P
use Rattle.link.specs.Rounds as Q
use Rattle.link.specs.Linking as L
use Rattle.lowercase_m.specs.M.{linked_on, group_holds, applies, move_done, move_only, move_link, move_serifs, move_stem, aligned, hint_lowercase_m}
use Rattle.stems_cjk.specs.Cjk.{max_gap, gap_of, pixel_offset, narrow_delta, is_blocked, shortest_move, wide_delta, offsets_delta, start_of, clamped, delta_of, stem_at, stem_of, placed_stem, hinted_stem}
use Rattle.stems_cjk.specs.Hint.{hint_normal_stem_cjk}
use Rattle.place.specs.Placing.{lower_bound, has_passed, neighbour, bound_by, adjusted}
use Rattle.stems_latin.specs.Latin.{centre_of, lower_offset, upper_offset, nearer_centre, thin_centre, thin_first, thin_second, anchored_first, anchored_second}
use Rattle.stems.specs.Visit.{too_close}
use Rattle.stems.specs.Stems.{beside_anchor, latin_stem, group_stem, zone_stem, visit_link, visit, stems_of, align_stem_edges}
use Rattle.rows.specs.Row.{Row, weak, stems, stem_cjk, build, m, link, All}

-- an unlinked edge, by opos and pos, placed by nothing yet
abbrev edge : ℕ → ℕ → Edge
edge o p = placed (fresh_edge (pos 0) (pos o) Directions.None 0) (pos p) Marks.Nothing

-- the same, linked to an edge
abbrev linked : ℕ → ℕ → ℕ → Edge
linked o p k = joined_to (edge o p) (Some k) None

-- an edge with the mark of what placed it
abbrev by : Mark → Edge → Edge
by mark e = placed e e.pos mark

-- a segment from 0 to 200, by direction, position, score, len and link
abbrev segment : Direction → ℕ → ℕ → ℕ → Link → Segment
segment dir p score len to = record {
  flags = normal;
  dir = dir;
  pos = pos p;
  delta = pos 0;
  min_coord = pos 0;
  max_coord = pos 200;
  height = pos 0;
  score = pos score;
  len = pos len;
  link = to;
  serif = None;
  first = 0;
  last = 0;
  edge = None;
  next = None;
}

-- the rows, in the document's order
abbrev pub table : List Row
table =
    -- references 0→0 and 3→64; originals 1, 2: 21, 43
    weak (pos 0 ∷ pos 1 ∷ pos 2 ∷ pos 3 ∷ []) (pos 0 ∷ pos 0 ∷ pos 0 ∷ pos 64 ∷ []) (1 ∷ 0 ∷ 0 ∷ 1 ∷ []) (3 ∷ []) 0 (pos 0 ∷ pos 21 ∷ pos 43 ∷ pos 64 ∷ [])
    -- references 0→0 and 3→-64; originals 1, 2: -21, -43
    ∷ weak (pos 0 ∷ pos 1 ∷ pos 2 ∷ pos 3 ∷ []) (pos 0 ∷ pos 0 ∷ pos 0 ∷ minus 64 ∷ []) (1 ∷ 0 ∷ 0 ∷ 1 ∷ []) (3 ∷ []) 0 (pos 0 ∷ minus 21 ∷ minus 43 ∷ minus 64 ∷ [])
    -- references 0→0 and 2→1; original 1: 1
    ∷ weak (pos 0 ∷ pos 1 ∷ pos 2 ∷ []) (pos 0 ∷ pos 0 ∷ pos 1 ∷ []) (1 ∷ 0 ∷ 1 ∷ []) (2 ∷ []) 0 (pos 0 ∷ pos 1 ∷ pos 1 ∷ [])
    -- then 2→-1: -1
    ∷ weak (pos 0 ∷ pos 1 ∷ pos 2 ∷ []) (pos 0 ∷ pos 0 ∷ minus 1 ∷ []) (1 ∷ 0 ∷ 1 ∷ []) (2 ∷ []) 0 (pos 0 ∷ minus 1 ∷ minus 1 ∷ [])
    -- references 0→0 and 3→64; originals -5, 10: -5, 71
    ∷ weak (pos 0 ∷ minus 5 ∷ pos 10 ∷ pos 3 ∷ []) (pos 0 ∷ pos 0 ∷ pos 0 ∷ pos 64 ∷ []) (1 ∷ 0 ∷ 0 ∷ 1 ∷ []) (3 ∷ []) 0 (pos 0 ∷ minus 5 ∷ pos 71 ∷ pos 64 ∷ [])
    -- originals 0, 10, 20; currents 0, 99, 20; first touched: 0, 99, 20
    ∷ weak (pos 0 ∷ pos 10 ∷ pos 20 ∷ []) (pos 0 ∷ pos 99 ∷ pos 20 ∷ []) (1 ∷ 0 ∷ 0 ∷ []) (2 ∷ []) 0 (pos 0 ∷ pos 99 ∷ pos 20 ∷ [])
    -- the same, currents 5, 99, 20: 5, 15, 25
    ∷ weak (pos 0 ∷ pos 10 ∷ pos 20 ∷ []) (pos 5 ∷ pos 99 ∷ pos 20 ∷ []) (1 ∷ 0 ∷ 0 ∷ []) (2 ∷ []) 0 (pos 5 ∷ pos 15 ∷ pos 25 ∷ [])
    -- Latin, Keep, bottom to top; edge 0 is the anchor, done, unlinked, at 0 and unmoved; edges 1 and 2 have opos 100 and 160, linked to each other: 130 and 190
    ∷ stems Vertical Default false (Some 0) Keep (finished (edge 0 0) ∷ linked 100 100 2 ∷ linked 160 160 1 ∷ [])
    0 0 (Some 0) (finished (edge 0 0) ∷ finished (by Marks.Stem (linked 100 130 2)) ∷ finished (by Marks.Stem (linked 160 190 1)) ∷ [])
    -- the same, 87 and 157 (tie between offsets 38 and 26): 119 and 189
    ∷ stems Vertical Default false (Some 0) Keep (finished (edge 0 0) ∷ linked 87 87 2 ∷ linked 157 157 1 ∷ [])
    0 0 (Some 0) (finished (edge 0 0) ∷ finished (by Marks.Stem (linked 87 119 2)) ∷ finished (by Marks.Stem (linked 157 189 1)) ∷ [])
    -- CJK, Keep, vertical, not round, no STEM_ADJUST, passed delta 0, 40 and 80: 26 and 66
    ∷ stem_cjk Vertical false Keep (edge 40 40 ∷ edge 80 80 ∷ []) (pos 0) 0 (minus 14) (by Marks.Stem (edge 40 26) ∷ by Marks.Stem (edge 80 66) ∷ [])
    -- the same with STEM_ADJUST: 24 and 64
    ∷ stem_cjk Vertical true Keep (edge 40 40 ∷ edge 80 80 ∷ []) (pos 0) 0 (minus 16) (by Marks.Stem (edge 40 24) ∷ by Marks.Stem (edge 80 64) ∷ [])
    -- scale 32,768, first threshold 21: distance threshold Latin 22, CJK 21
    ∷ build Default (pos 21) (pos 32768) (pos 22)
    ∷ build Cjk (pos 21) (pos 32768) (pos 21)
    -- 6 Latin edges; 0, 2, 4 have opos 0, 100, 207, pos 0, 128, 270; 4 has no link: edge 4 at 256
    ∷ m Default (edge 0 0 ∷ empty_edge ∷ edge 100 128 ∷ empty_edge ∷ edge 207 270 ∷ empty_edge ∷ [])
    0 (edge 0 0 ∷ empty_edge ∷ edge 100 128 ∷ empty_edge ∷ finished (by Marks.LowercaseM (edge 207 256)) ∷ empty_edge ∷ [])
    -- positions 0 (major) and 100 (opposite), both 0 to 200 wide, score 32,000, len 0, 1000 per em, scale 65,536: linked to each other, score 100, len 200
    ∷ link (segment Up 0 32000 0 None ∷ segment Down 100 32000 0 None ∷ []) Up (pos 1000) (pos 65536)
    0 (segment Up 0 100 200 (Some 1) ∷ segment Down 100 100 200 (Some 0) ∷ [])
    ∷ []

-- every row holds
pub rows-hold : All table
unfolding
    rounded rounded_z mul_fix div_fix derived pix_floor pix_round rule_holds fitted_width
    refusal link_holds blue_holds every edge_indices edge_numbers edges_indices edges_numbers segment_indices segment_next segment_numbers segments_indices segments_nexts segments_numbers
    ends_hold coordinate_holds coordinates_hold contour_of first_touched last_touched touched_before touched_behind references first_of second_of interpolated between_at shifted_at followed
    weak_at on_contour aligned_at list_of result gentle gentle_from steep_on steep_at steep_followed steep_by steep_between too_steep
    distance_threshold
    linked_on group_holds applies move_done move_only move_link move_serifs move_stem aligned hint_lowercase_m
    D.same D.opposite links_to turns till P.max_z P.min_z P.gap_of P.facing P.check_seg P.improved_by P.near_stem P.encloses P.much_longer P.rewritten P.stays_serif P.settled
    Q.improve_pair Q.pair_turn Q.major_turn Q.pair_round Q.rewrite_turn Q.rewrite_all Q.unlink Q.held_to Q.given_up_to Q.hold_turn Q.given_up Q.hold Q.serif_to Q.serif_turn Q.serif_round
    Q.last_to Q.last_turn Q.last_round Q.linked L.thresholds_of L.numbers_hold L.link_segments_cjk
    max_gap gap_of pixel_offset narrow_delta is_blocked shortest_move wide_delta offsets_delta start_of clamped delta_of stem_at stem_of placed_stem hinted_stem hint_normal_stem_cjk
    lower_bound has_passed neighbour bound_by adjusted centre_of lower_offset upper_offset nearer_centre thin_centre thin_first thin_second anchored_first anchored_second
    visits too_close beside_anchor latin_stem group_stem zone_stem visit_link visit stems_of align_stem_edges
rows-hold = ((refl, refl), ((refl, refl), ((refl, refl), ((refl, refl), ((refl, refl), ((refl, refl), ((refl, refl), (refl, (refl, (refl, (refl, (refl, (refl, (refl, (refl, tt)))))))))))))))
