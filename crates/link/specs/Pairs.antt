-- What the rounds ask of one segment or of two, and what becomes of a segment, as the Rust's `link_segments_cjk` has it.
use Rattle.std.specs.Prelude.{None, Some}
use Rattle.std.specs.Prelude.{Bool, cond, not, ◌&&◌, ◌||◌, ℕ, eqb, ℤ, pos, ◌-ℤ◌, ◌*ℤ◌}
use Rattle.std.specs.Int.Signed.{lt_z, le_z}
use Rattle.signed.specs.Equality.{eq_z}
use Rattle.axis.specs.Link.{Link}
use Rattle.axis.specs.declared.segment.Segment.{Segment}
use Rattle.axis.specs.Direction.{opposite}
use Rattle.axis.specs.Link.{links_to}
use Rattle.link.specs.declared.gap.Gap.{Gap}
use Rattle.link.specs.declared.thresholds.Thresholds.{Thresholds}

-- the larger of two numbers
unfoldable pub max_z : ℤ → ℤ → ℤ
max_z a b = cond (lt_z a b) b a

-- the smaller of two numbers
unfoldable pub min_z : ℤ → ℤ → ℤ
min_z a b = cond (lt_z a b) a b

-- the segment with another score, len, link and serif; the rounds change nothing else
abbrev pub relinked : Segment → ℤ → ℤ → Link → Link → Segment
relinked s score len link serif = record {
  flags = s.flags;
  dir = s.dir;
  pos = s.pos;
  delta = s.delta;
  min_coord = s.min_coord;
  max_coord = s.max_coord;
  height = s.height;
  score = score;
  len = len;
  link = link;
  serif = serif;
  first = s.first;
  last = s.last;
  edge = s.edge;
  next = s.next;
}

-- ---- the pair round
-- the distance of the second segment from where the first was before the inner loop, and the overlap of the two
unfoldable pub gap_of : Segment → Segment → Segment → Gap
gap_of before seg1 seg2 = record { dist = seg2.pos -ℤ before.pos; len = min_z seg1.max_coord seg2.max_coord -ℤ max_z seg1.min_coord seg2.min_coord }

-- a gap can be that of a stem: the second segment not before the first, with an overlap of the threshold or more
abbrev pub stem_gap : Thresholds → Gap → Bool
stem_gap by gap = le_z (pos 0) gap.dist && le_z by.len gap.len

-- the segments ix1 and ix2 can be a stem: different ones, in opposite directions, with such a gap
unfoldable pub facing : Thresholds → Segment → Segment → ℕ → ℕ → Gap → Bool
facing by seg1 seg2 ix1 ix2 gap = not (eqb ix1 ix2) && (opposite seg1.dir seg2.dir && stem_gap by gap)

-- a stem of this gap is better than the one that the segment has: dist * 8 < score * 9, and dist * 8 < score * 7 or the overlap is longer
unfoldable pub check_seg : Segment → Gap → Bool
check_seg seg gap = lt_z (gap.dist *ℤ pos 8) (seg.score *ℤ pos 9) && (lt_z (gap.dist *ℤ pos 8) (seg.score *ℤ pos 7) || lt_z seg.len gap.len)

-- the segment linked to ix by a stem of this gap
abbrev pub linked_by : Segment → Gap → ℕ → Segment
linked_by seg gap ix = relinked seg gap.dist gap.len (Some ix) seg.serif

-- the same where that is better
unfoldable pub improved_by : Segment → Gap → ℕ → Segment
improved_by seg gap ix = cond (check_seg seg gap) (linked_by seg gap ix) seg

-- ---- the serif round
-- the segment without a link, a serif of what `serif` names
abbrev pub serif_of : Segment → Link → Segment
serif_of seg serif = relinked seg seg.score seg.len None serif

-- the segment without a link
abbrev pub unlinked : Segment → Segment
unlinked seg = serif_of seg seg.serif

-- the segment ix1 and its link are a near stem: a score below the threshold, linked to each other, the link behind the segment
unfoldable pub near_stem : Thresholds → Segment → Segment → ℕ → Bool
near_stem by seg1 link1 ix1 = lt_z seg1.score by.dist && (links_to link1.link ix1 && lt_z seg1.pos link1.pos)

-- the stem of the segment ix2 and link2 encloses that of the segment ix1 and link1: another segment and not behind it, linked to each other, the link not
-- before link1; the two stems do not coincide; and its score is above that of seg1 and below four times that
unfoldable pub encloses : Segment → Segment → Segment → Segment → ℕ → ℕ → Bool
encloses seg1 link1 seg2 link2 ix1 ix2 =
    (le_z seg2.pos seg1.pos && not (eqb ix1 ix2)) &&
    ((links_to link2.link ix2 && le_z link1.pos link2.pos) &&
    (not (eq_z seg1.pos seg2.pos && eq_z link1.pos link2.pos) &&
    (lt_z seg1.score seg2.score && lt_z seg2.score (seg1.score *ℤ pos 4))))

-- seg1 is at least three times as long as seg2
unfoldable pub much_longer : Segment → Segment → Bool
much_longer seg1 seg2 = le_z (seg2.len *ℤ pos 3) seg1.len

-- what was linked to ix2 becomes a serif of link1-ix; what was linked to link2-ix, a serif of ix1
unfoldable pub rewritten : Segment → ℕ → ℕ → ℕ → ℕ → Segment
rewritten seg ix2 link1-ix link2-ix ix1 = cond (links_to seg.link ix2) (serif_of seg (Some link1-ix)) (cond (links_to seg.link link2-ix) (serif_of seg (Some ix1)) seg)

-- ---- the last round
-- seg1, whose link to seg2 is lost, is a serif of what seg2 is linked to: seg2 is near, or seg1's score is below four times that of seg2
unfoldable pub stays_serif : Thresholds → Segment → Segment → Bool
stays_serif by seg1 seg2 = lt_z seg2.score by.dist || lt_z seg1.score (seg2.score *ℤ pos 4)

-- the segment ix1, linked to seg2: a link that is not returned goes, and leaves a serif or nothing
unfoldable pub settled : Thresholds → Segment → Segment → ℕ → Segment
settled by seg1 seg2 ix1 = cond (links_to seg2.link ix1) seg1 (cond (stays_serif by seg1 seg2) (serif_of seg1 seg2.link) (unlinked seg1))
