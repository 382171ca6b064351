-- Segments as words.
use mathlib.Core.Path.{◌≡◌, refl}
use Prim.Native.Nat.{ℕ}
use lib.ListN.{length}
use Rattle.axis.specs.declared.segment.Segment.{Segment}
use Rattle.axis.specs.declared.segment.Segments.{Segments}
use Rattle.words.specs.Segment.{segment_size, segment_words, segment_words_at}

-- the words of a segment
pub segment-length : (s : Segment) → length (segment_words s) ≡ segment_size
unfolding segment_words
segment-length s = refl

pub segment-lengths : (t : Segments) (i : ℕ) → length (segment_words_at t i) ≡ segment_size
segment-lengths t i = segment-length _
