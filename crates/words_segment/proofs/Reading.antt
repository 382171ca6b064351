-- Each field of a segment, by its word.
use mathlib.Core.Path.{◌≡◌, ap, ◌∙◌}
use mathlib.Core.List.{List}
use Prim.Native.Nat.{ℕ, ◌*◌, ◌<◌}
use lib.IntN.{ℤ}
use Rattle.axis.specs.declared.segment.Segment.{Segment}
use Rattle.axis.specs.Segment.{segment_at}
use Rattle.words.specs.Word.{word_at}
use Rattle.words.specs.Field.{short_of, index_of, link_of, direction_of, flags_of}
use Rattle.words.specs.Segment.{
  segment_size,
  flags_place,
  dir_place,
  pos_place,
  delta_place,
  min_place,
  max_place,
  height_place,
  score_place,
  len_place,
  link_place,
  serif_place,
  first_place,
  last_place,
  edge_place,
  next_place,
}
use Rattle.words.specs.Segment.{word_of_segment, segments_in, flat_segments}
use Rattle.words.proofs.Codecs.{behind}
use Rattle.words.proofs.Layouts.{segment_by, segment-by}
use Rattle.words_segment.specs.Whole.{Whole}
use Rattle.words_segment.proofs.Wholes.{segment-in}

module _ (ws : List ℤ) (i : ℕ) (w : Whole ws) (h : i < segments_in ws) where
  by-words : segment_at (flat_segments ws) i ≡ segment_by (behind ws (segment_size * i))
  by-words = segment-in ws i w h ∙ segment-by ws (segment_size * i)

  pub flags-in : (segment_at (flat_segments ws) i).flags ≡ flags_of (word_at ws (word_of_segment i flags_place))
  flags-in = ap (λ (s : Segment). s.flags) by-words

  pub dir-in : (segment_at (flat_segments ws) i).dir ≡ direction_of (word_at ws (word_of_segment i dir_place))
  dir-in = ap (λ (s : Segment). s.dir) by-words

  pub pos-in : (segment_at (flat_segments ws) i).pos ≡ short_of (word_at ws (word_of_segment i pos_place))
  pos-in = ap (λ (s : Segment). s.pos) by-words

  pub delta-in : (segment_at (flat_segments ws) i).delta ≡ short_of (word_at ws (word_of_segment i delta_place))
  delta-in = ap (λ (s : Segment). s.delta) by-words

  pub min-in : (segment_at (flat_segments ws) i).min_coord ≡ short_of (word_at ws (word_of_segment i min_place))
  min-in = ap (λ (s : Segment). s.min_coord) by-words

  pub max-in : (segment_at (flat_segments ws) i).max_coord ≡ short_of (word_at ws (word_of_segment i max_place))
  max-in = ap (λ (s : Segment). s.max_coord) by-words

  pub height-in : (segment_at (flat_segments ws) i).height ≡ short_of (word_at ws (word_of_segment i height_place))
  height-in = ap (λ (s : Segment). s.height) by-words

  pub score-in : (segment_at (flat_segments ws) i).score ≡ word_at ws (word_of_segment i score_place)
  score-in = ap (λ (s : Segment). s.score) by-words

  pub len-in : (segment_at (flat_segments ws) i).len ≡ word_at ws (word_of_segment i len_place)
  len-in = ap (λ (s : Segment). s.len) by-words

  pub link-in : (segment_at (flat_segments ws) i).link ≡ link_of (word_at ws (word_of_segment i link_place))
  link-in = ap (λ (s : Segment). s.link) by-words

  pub serif-in : (segment_at (flat_segments ws) i).serif ≡ link_of (word_at ws (word_of_segment i serif_place))
  serif-in = ap (λ (s : Segment). s.serif) by-words

  pub first-in : (segment_at (flat_segments ws) i).first ≡ index_of (word_at ws (word_of_segment i first_place))
  first-in = ap (λ (s : Segment). s.first) by-words

  pub last-in : (segment_at (flat_segments ws) i).last ≡ index_of (word_at ws (word_of_segment i last_place))
  last-in = ap (λ (s : Segment). s.last) by-words

  pub edge_in : (segment_at (flat_segments ws) i).edge ≡ link_of (word_at ws (word_of_segment i edge_place))
  edge_in = ap (λ (s : Segment). s.edge) by-words

  pub next-in : (segment_at (flat_segments ws) i).next ≡ link_of (word_at ws (word_of_segment i next_place))
  next-in = ap (λ (s : Segment). s.next) by-words
