-- What the rounds require of lent words and promise of them, and their steps as what they make of a table.
use Rattle.std.specs.Prelude.{◌≡◌, Bool, List, ℕ, ℤ, negsuc}
use Rattle.axis.specs.declared.kinds.Direction.{Direction}
use Rattle.axis.specs.declared.kinds.Direction.TheVariants as Directions
use Rattle.axis.specs.declared.segment.Segment.{Segment}
use Rattle.axis.specs.declared.segment.Segments.{Segments}
use Rattle.axis.specs.Accepted.{SegmentsWithin}
use Rattle.axis.specs.Segment.{segment_at, put_segment}
use Rattle.link.specs.declared.gap.Gap.{Gap}
use Rattle.link.specs.Pairs.{improved_by}
use Rattle.link.specs.Rounds.{hold_turn, given_up}
use Rattle.words.specs.Field.{direction_word}
use Rattle.words.specs.Segment.{flat_segments}
use Rattle.words_segment.specs.Whole.{Whole, Became}

-- the words of segments that linking accepts
pub record Linkable (ws : List ℤ) : Type 0 where
  pub whole : Whole ws
  pub within : SegmentsWithin (flat_segments ws)

-- the table is what f makes of it, and is still such
pub record Made (f : Segments → Segments) (ws ws' : List ℤ) : Type 0 where
  pub became : Became f ws ws'
  pub within : SegmentsWithin (flat_segments ws')

-- ---- the pair round
-- a segment of the same direction and extent: what the inner loop does not change
pub record Alike (a s : Segment) : Type 0 where
  pub dir : s.dir ≡ a.dir
  pub low : s.min_coord ≡ a.min_coord
  pub high : s.max_coord ≡ a.max_coord

-- the word of the direction opposite to another one, and no direction's where none is
abbrev pub other_word : Direction → ℤ
other_word Directions.None = negsuc 0
other_word Directions.Right = direction_word Directions.Left
other_word Directions.Left = direction_word Directions.Right
other_word Directions.Up = direction_word Directions.Down
other_word Directions.Down = direction_word Directions.Up

-- segment i linked to ix by a stem of this gap, where that is better
abbrev pub improving : ℕ → Gap → ℕ → Segments → Segments
improving i gap ix t = put_segment t i (improved_by (segment_at t i) gap ix)

-- ---- the serif round
-- the turn ix2 of the inner loop is made, and r is whether it is the last
pub record Held (seg1 link1 : Segment) (ix1 link1-ix ix2 : ℕ) (r : Bool) (ws ws' : List ℤ) : Type 0 where
  pub made : Made (hold_turn seg1 link1 ix1 link1-ix ix2) ws ws'
  pub last : given_up seg1 link1 ix1 link1-ix ix2 (flat_segments ws) ≡ r
