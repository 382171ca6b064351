-- The tests of segments on their words are those of the table that they are read as.
use mathlib.Core.Path.{◌≡◌, sym, ap, ◌∙◌}
use mathlib.Core.Bool.{Bool, true, false}
use mathlib.Core.List.{List}
use Prim.Native.Nat.{ℕ, ◌+◌, ◌*◌, ◌<◌, min}
use native.Mathlib.Omega.{arith}
use lib.IntN.{ℤ}
use Rattle.axis.specs.declared.accept.SegmentTest.{SegmentTest}
use Rattle.axis.specs.declared.segment.Segment.{Segment}
use Rattle.axis.specs.declared.segment.Segments.{Segments}
use Rattle.axis.specs.Limits.{most_segments}
use Rattle.axis.specs.Refusals.{segment_passes, segments_indices, segments_nexts}
use Rattle.axis.specs.Segment.{empty_segment, segment_at}
use Rattle.words.specs.Word.{table}
use Rattle.words.specs.Segment.{segment_size, segment_from, segment_in_run, segments_run, flat_segments, segments_in}
use Rattle.words.proofs.Places.{firsts_at}
use Rattle.words_segment_test.specs.Held.{indices_hold}

-- ---- a segment of the table
-- in each place that the table holds, however many words there are
pub segment-held : (ws : List ℤ) (i : ℕ) → i < min (segments_in ws) most_segments → segment_at (flat_segments ws) i ≡ segment_from ws (segment_size * i)
unfolding flat_segments segments_run table
segment-held ws i h =
    let q : 0 + segment_size * i ≡ segment_size * i = omega arith in
    firsts_at (segment_in_run ws 0) (min (segments_in ws) most_segments) i _ empty_segment h ∙ ap (segment_from ws) q

-- a test of it is that of the segment that is read there
pub segment-tested : (test : SegmentTest) (ws : List ℤ) (i : ℕ) (s : Segment) (r v : Bool) → i < min (segments_in ws) most_segments
    → s ≡ segment_from ws (segment_size * i) → r ≡ segment_passes test s → r ≡ v → segment_passes test (segment_at (flat_segments ws) i) ≡ v
segment-tested test ws i s r v h p q g = ap (segment_passes test) (segment-held ws i h ∙ sym p) ∙ sym q ∙ g

-- ---- the indices of every segment, and its next where that is tested
module _ (t : Segments) (nexts a : Bool) (e : a ≡ segments_indices t) where
  pub index-fails : a ≡ false → false ≡ indices_hold t nexts
  index-fails h = rw (sym e ∙ h)

  pub next-tested : (r : Bool) → a ≡ true → nexts ≡ true → r ≡ segments_nexts t → r ≡ indices_hold t nexts
  next-tested r h g f = rw (sym e ∙ h, g) f

  pub next-untested : a ≡ true → nexts ≡ false → true ≡ indices_hold t nexts
  next-untested h g = rw (sym e ∙ h, g)
