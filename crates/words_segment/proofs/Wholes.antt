-- Words that are the words of their segments.
use mathlib.Core.Path.{◌≡◌, refl, sym, ap, subst, ◌∙◌}
use mathlib.Core.Bool.{true}
use mathlib.Core.List.{List}
use Prim.Native.Nat.{ℕ, ◌*◌, ◌≤◌, ◌<◌}
use native.Mathlib.Omega.{arith}
use lib.IntN.{ℤ, pos, negsuc}
use Rattle.signed.specs.Parts.{up}
use Rattle.axis.specs.declared.segment.Segment.{Segment}
use Rattle.axis.specs.Handed.{Short, TypedSegment}
use Rattle.axis.specs.Limits.{most_segments}
use Rattle.axis.specs.Segment.{empty_segment, segment_at, put_segment}
use Rattle.words.specs.Field.{link_of, link_word, direction_word}
use Rattle.words.specs.Word.{word_at}
use Rattle.words.specs.Segment.{segment_size, dir_place, pos_place, min_place, max_place, link_place, serif_place, word_of_segment}
use Rattle.words.specs.Segment.{segments_in, segment_from, segments_run, flat_segments, segment_words}
use Rattle.words.proofs.Typed.{flat-typed}
use Rattle.words.specs.Record.{segment_layout}
pub use Rattle.words.proofs.Wholes.{room}
use Rattle.words.proofs.Writes.{Tabled, record-in}
use Rattle.words_shape.specs.Shape.{segments_shown}
use Rattle.words_call.proofs.Whole.{segments-shown}
use Rattle.words_segment.specs.Whole.{Whole, table_in}

-- words that are segments and no more
pub shown-whole : (ws : List ℤ) → segments_shown ws ≡ true → segments_in ws ≤ most_segments → Whole ws
shown-whole ws shown few = segments-shown ws shown few

-- how many segments their table has
pub segments-len : (ws : List ℤ) → (flat_segments ws).len ≡ segments_in ws
unfolding flat_segments segments_run
segments-len ws = refl

-- a word that is written as the link that it is read as is of 16 bits, where it is one
small : (w v : ℤ) → w ≡ link_word (link_of v) → up w < 65536
unfolding link_of
small w (pos n) e = subst (λ (z : ℤ). up z < 65536) (sym e) (omega arith)
small w (negsuc n) e = subst (λ (z : ℤ). up z < 65536) (sym e) (omega arith)

-- it is read and written as the list of its segments
pub segment_table : Tabled segment_layout table_in segment_at put_segment
unfolding flat_segments segments_run
segment_table = record {
  empty = empty_segment;
  wrap = λ (d : Unit {0}) (ss : List Segment) (n : ℕ). record { segments = ss; len = n };
  tables = λ ws d. refl;
  gets = λ d ss n i. refl;
  puts = λ d ss n i s. refl;
}

module _ (ws : List ℤ) (i : ℕ) (w : Whole ws) (h : i < segments_in ws) where
  -- the segment in a place is the one whose words stand there
  pub segment-in : segment_at (flat_segments ws) i ≡ segment_from ws (segment_size * i)
  segment-in = record-in segment_table ws tt i w h

  -- a word of it, as it is written
  word-is : (j : ℕ) → j < segment_size → word_at ws (word_of_segment i j) ≡ word_at (segment_words (segment_at (flat_segments ws) i)) j
  word-is j b = sym (w.word i j h b) ∙ ap (λ (s : Segment). word_at (segment_words s) j) (sym segment-in)

  -- its direction and coordinates
  pub dir-is : word_at ws (word_of_segment i dir_place) ≡ direction_word (segment_at (flat_segments ws) i).dir
  unfolding segment_words
  dir-is = word-is dir_place (omega arith)

  pub pos-is : word_at ws (word_of_segment i pos_place) ≡ (segment_at (flat_segments ws) i).pos
  unfolding segment_words
  pos-is = word-is pos_place (omega arith)

  pub min-is : word_at ws (word_of_segment i min_place) ≡ (segment_at (flat_segments ws) i).min_coord
  unfolding segment_words
  min-is = word-is min_place (omega arith)

  pub max-is : word_at ws (word_of_segment i max_place) ≡ (segment_at (flat_segments ws) i).max_coord
  unfolding segment_words
  max-is = word-is max_place (omega arith)

  typed : TypedSegment (segment_at (flat_segments ws) i)
  typed = (flat-typed ws).segment i

  pub pos-short : Short (word_at ws (word_of_segment i pos_place))
  pos-short = subst Short (sym pos-is) typed.pos

  pub min-short : Short (word_at ws (word_of_segment i min_place))
  min-short = subst Short (sym min-is) typed.low

  pub max-short : Short (word_at ws (word_of_segment i max_place))
  max-short = subst Short (sym max-is) typed.high

  -- its link and its serif, as words of 16 bits where they are there
  pub link-small : up (word_at ws (word_of_segment i link_place)) < 65536
  unfolding segment_words segment_from
  link-small = small _ _ (sym (w.word i link_place h (omega arith)))

  pub serif-small : up (word_at ws (word_of_segment i serif_place)) < 65536
  unfolding segment_words segment_from
  serif-small = small _ _ (sym (w.word i serif_place h (omega arith)))
