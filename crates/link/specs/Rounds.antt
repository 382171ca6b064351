-- CJK linking (document 01, module 3): the three rounds of the Rust's `link_segments_cjk`, in the order of its reads and writes. What a turn takes from before
-- its loop is a parameter of the turn; all else it reads from the table that the turn before left.
use Rattle.std.specs.Prelude.{None, Some}
use Rattle.std.specs.Prelude.{Bool, false, cond, not, ◌&&◌, ℕ}
use Rattle.axis.specs.declared.kinds.Direction.{Direction}
use Rattle.axis.specs.Link.{Link}
use Rattle.axis.specs.declared.segment.Segment.{Segment}
use Rattle.axis.specs.declared.segment.Segments.{Segments}
use Rattle.axis.specs.Direction.{same}
use Rattle.axis.specs.Segment.{segment_at, put_segment}
use Rattle.link.specs.declared.gap.Gap.{Gap}
use Rattle.link.specs.declared.thresholds.Thresholds.{Thresholds}
use Rattle.link.specs.Loops.{turns, till}
use Rattle.link.specs.Pairs.{gap_of, facing, improved_by, unlinked, near_stem, encloses, much_longer, rewritten, settled}

-- ---- the pair round
-- both segments, tested as they stand at this turn, take the stem where it is better
unfoldable pub improve_pair : ℕ → ℕ → Gap → Segments → Segments
improve_pair ix1 ix2 gap t = put_segment (put_segment t ix1 (improved_by (segment_at t ix1) gap ix2)) ix2 (improved_by (segment_at t ix2) gap ix1)

-- the turn ix2 of the inner loop; `before` is the segment ix1 as it was before that loop
unfoldable pub pair_turn : Thresholds → Segment → ℕ → ℕ → Segments → Segments
pair_turn by before ix1 ix2 t =
    cond (facing by (segment_at t ix1) (segment_at t ix2) ix1 ix2 (gap_of before (segment_at t ix1) (segment_at t ix2)))
    (improve_pair ix1 ix2 (gap_of before (segment_at t ix1) (segment_at t ix2)) t)
    t

-- the turn ix1 over n segments: one in the major direction meets them all
unfoldable pub major_turn : Direction → Thresholds → ℕ → ℕ → Segments → Segments
major_turn major by n ix1 t = cond (same (segment_at t ix1).dir major) (turns (pair_turn by (segment_at t ix1) ix1) n t) t

-- the pair round
unfoldable pub pair_round : Direction → Thresholds → Segments → Segments
pair_round major by t = turns (major_turn major by t.len) t.len t

-- ---- the serif round
-- the segment i, its link rewritten
unfoldable pub rewrite_turn : ℕ → ℕ → ℕ → ℕ → ℕ → Segments → Segments
rewrite_turn ix2 link1-ix link2-ix ix1 i t = put_segment t i (rewritten (segment_at t i) ix2 link1-ix link2-ix ix1)

-- every segment, its link rewritten
unfoldable pub rewrite_all : ℕ → ℕ → ℕ → ℕ → Segments → Segments
rewrite_all ix2 link1-ix link2-ix ix1 t = turns (rewrite_turn ix2 link1-ix link2-ix ix1) t.len t

-- the segment ix without its link
unfoldable pub unlink : ℕ → Segments → Segments
unlink ix t = put_segment t ix (unlinked (segment_at t ix))

-- the inner loop of the segment ix1, linked to link1-ix: seg1 and link1 are the two as they were before that loop
module _ (seg1 link1 : Segment) (ix1 link1-ix : ℕ) where
  -- the turn ix2, where the segment ix2 has this link: a stem that encloses the first is rewritten into serifs where seg1 is much longer than it; else the
  -- first one is given up
  unfoldable pub held_to : ℕ → Link → Segments → Segments
  held_to ix2 None t = t
  held_to ix2 (Some link2-ix) t =
      cond (encloses seg1 link1 (segment_at t ix2) (segment_at t link2-ix) ix1 ix2)
      (cond (much_longer seg1 (segment_at t ix2)) (rewrite_all ix2 link1-ix link2-ix ix1 t) (unlink link1-ix (unlink ix1 t)))
      t

  -- that turn is the last: the first stem is given up
  unfoldable pub given_up_to : ℕ → Link → Segments → Bool
  given_up_to ix2 None t = false
  given_up_to ix2 (Some link2-ix) t = encloses seg1 link1 (segment_at t ix2) (segment_at t link2-ix) ix1 ix2 && not (much_longer seg1 (segment_at t ix2))

  -- the turn ix2 of the inner loop, by the link in the table
  unfoldable pub hold_turn : ℕ → Segments → Segments
  hold_turn ix2 t = held_to ix2 (segment_at t ix2).link t

  -- whether it is the last
  unfoldable pub given_up : ℕ → Segments → Bool
  given_up ix2 t = given_up_to ix2 (segment_at t ix2).link t

  -- the inner loop over n segments
  unfoldable pub hold : ℕ → Segments → Segments
  hold n t = till given_up hold_turn n 0 t

-- the turn ix1 over n segments, where the segment ix1 has this link: a near stem is held against them all
unfoldable pub serif_to : Thresholds → ℕ → ℕ → Link → Segments → Segments
serif_to by n ix1 None t = t
serif_to by n ix1 (Some link1-ix) t =
    cond (near_stem by (segment_at t ix1) (segment_at t link1-ix) ix1)
    (hold (segment_at t ix1) (segment_at t link1-ix) ix1 link1-ix n t)
    t

-- that turn, by the link in the table
unfoldable pub serif_turn : Thresholds → ℕ → ℕ → Segments → Segments
serif_turn by n ix1 t = serif_to by n ix1 (segment_at t ix1).link t

-- the serif round
unfoldable pub serif_round : Thresholds → Segments → Segments
serif_round by t = turns (serif_turn by t.len) t.len t

-- ---- the last round
-- the turn ix1, where the segment ix1 has this link
unfoldable pub last_to : Thresholds → ℕ → Link → Segments → Segments
last_to by ix1 None t = t
last_to by ix1 (Some ix2) t = put_segment t ix1 (settled by (segment_at t ix1) (segment_at t ix2) ix1)

-- that turn, by the link in the table
unfoldable pub last_turn : Thresholds → ℕ → Segments → Segments
last_turn by ix1 t = last_to by ix1 (segment_at t ix1).link t

-- the last round
unfoldable pub last_round : Thresholds → Segments → Segments
last_round by t = turns (last_turn by) t.len t

-- ---- the whole
-- the three rounds, one after the other
unfoldable pub linked : Direction → Thresholds → Segments → Segments
linked major by t = last_round by (serif_round by (pair_round major by t))
