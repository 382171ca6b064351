-- Words that are those of segments, and that a call accepts.
use Rattle.std.specs.Prelude.{◌≡◌, Bool, true, cond, ◌&&◌, List, ℕ, ◌+◌, ℤ, pos}
use Rattle.axis.specs.declared.segment.Segments.{Segments}
use Rattle.axis.specs.Limits.{most_score}
use Rattle.axis.specs.Refusals.{inside, segments_indices, segments_nexts, segments_numbers}
use Rattle.words.specs.Word.{word_at}
use Rattle.words.specs.Segment.{flat_segments}
use Rattle.words.specs.Segment.{flags_place, dir_place, pos_place, delta_place, min_place, max_place, height_place, score_place, len_place, link_place, serif_place, first_place, last_place, edge_place, next_place}
use Rattle.words.specs.Record.{segment_layout}
use Rattle.words_shape.specs.declared.field.Range.{Range}
use Rattle.words_shape.specs.declared.element.Record.TheVariants as Records
use Rattle.words_shape.specs.Shape as Shape
use Rattle.words_call.specs.Held.{HeldOf, tested_of}
use Rattle.words_edge_test.specs.Held.{links_to}

-- ---- the words
-- the values of a link that is tested, to one of n or to none, and of one that is not
abbrev pub links_where : ℕ → Bool → Range
links_where n tested = cond tested (links_to n) Shape.link

-- a word that is one of its field's values
abbrev pub field_test : List ℤ → ℕ → ℕ → Bool
field_test = Shape.field_in Records.Segment

-- the tests of the words of one segment, whose link and serif have these values, and whose next has those
pub record FrontHeld (ws : List ℤ) (at : ℕ) : Type 0 where
  pub w0 : field_test ws at flags_place ≡ true
  pub w1 : field_test ws at dir_place ≡ true
  pub w2 : field_test ws at pos_place ≡ true
  pub w3 : field_test ws at delta_place ≡ true
  pub w4 : field_test ws at min_place ≡ true
  pub w5 : field_test ws at max_place ≡ true
  pub w6 : field_test ws at height_place ≡ true
  pub w7 : inside (pos 0) (pos most_score) (word_at ws (at + score_place)) ≡ true
  pub w8 : inside (pos 0) (pos most_score) (word_at ws (at + len_place)) ≡ true

pub record BackHeld (ws : List ℤ) (at : ℕ) (links nexts : Range) : Type 0 where
  pub w9 : Shape.is_in links (word_at ws (at + link_place)) ≡ true
  pub w10 : Shape.is_in links (word_at ws (at + serif_place)) ≡ true
  pub w11 : field_test ws at first_place ≡ true
  pub w12 : field_test ws at last_place ≡ true
  pub w13 : field_test ws at edge_place ≡ true
  pub w14 : Shape.is_in nexts (word_at ws (at + next_place)) ≡ true

-- each next is a segment, where that is tested
abbrev pub nexts_hold : Segments → Bool → Bool
nexts_hold t nexts = cond nexts (segments_nexts t) true

-- link and serif of every segment are segments, and so is each next where that is tested
abbrev pub indices_hold : Segments → Bool → Bool
indices_hold t nexts = segments_indices t && nexts_hold t nexts

-- the words are those of segments, and no segment is refused
abbrev pub Held : List ℤ → Bool → Type 0
Held ws nexts = HeldOf segment_layout ws (Shape.segments_shown ws) (indices_hold (flat_segments ws) nexts) (segments_numbers (flat_segments ws))

-- ---- the answer
-- the refusal of segments that are not too many, by a call's parameters, by indices, and by numbers, those that it passes too
abbrev pub tested : Segments → ℕ → Bool → Bool → ℕ
tested t own nexts passed = tested_of own (indices_hold t nexts) (segments_numbers t && passed)
