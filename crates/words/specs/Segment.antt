-- Segments as words.
use Rattle.std.specs.Prelude.{List, [], ◌∷◌, ℕ, ◌+◌, ◌*◌, ◌/◌, min, length, ℤ, pos}
use Rattle.axis.specs.declared.segment.Segment.{Segment}
use Rattle.axis.specs.declared.segment.Segments.{Segments}
use Rattle.axis.specs.Segment.{empty_segment, segment_at}
use Rattle.axis.specs.Limits.{most_segments}
use Rattle.words.specs.Word.{word_at, written, joined, table}
use Rattle.words.specs.Field.{short_of, index_of, link_of, direction_of, flags_of, link_word, direction_word, flags_word}

-- how many words a segment is
abbrev pub segment_size : ℕ
segment_size = 15

-- ---- places
-- of the fields among the words of a segment
abbrev pub flags_place : ℕ
flags_place = 0

abbrev pub dir_place : ℕ
dir_place = 1

abbrev pub pos_place : ℕ
pos_place = 2

abbrev pub delta_place : ℕ
delta_place = 3

abbrev pub min_place : ℕ
min_place = 4

abbrev pub max_place : ℕ
max_place = 5

abbrev pub height_place : ℕ
height_place = 6

abbrev pub score_place : ℕ
score_place = 7

abbrev pub len_place : ℕ
len_place = 8

abbrev pub link_place : ℕ
link_place = 9

abbrev pub serif_place : ℕ
serif_place = 10

abbrev pub first_place : ℕ
first_place = 11

abbrev pub last_place : ℕ
last_place = 12

abbrev pub edge_place : ℕ
edge_place = 13

abbrev pub next_place : ℕ
next_place = 14

-- the word of segment i in a list of segments, by its field's place
abbrev pub word_of_segment : ℕ → ℕ → ℕ
word_of_segment i place = segment_size * i + place

-- ---- words as segments
-- the segment whose words stand at a place
unfoldable pub segment_from : List ℤ → ℕ → Segment
segment_from ws at = record {
  flags = flags_of (word_at ws at);
  dir = direction_of (word_at ws (at + dir_place));
  pos = short_of (word_at ws (at + pos_place));
  delta = short_of (word_at ws (at + delta_place));
  min_coord = short_of (word_at ws (at + min_place));
  max_coord = short_of (word_at ws (at + max_place));
  height = short_of (word_at ws (at + height_place));
  score = word_at ws (at + score_place);
  len = word_at ws (at + len_place);
  link = link_of (word_at ws (at + link_place));
  serif = link_of (word_at ws (at + serif_place));
  first = index_of (word_at ws (at + first_place));
  last = index_of (word_at ws (at + last_place));
  edge = link_of (word_at ws (at + edge_place));
  next = link_of (word_at ws (at + next_place));
}

-- a segment of those whose words stand from a place on
abbrev pub segment_in_run : List ℤ → ℕ → ℕ → Segment
segment_in_run ws first i = segment_from ws (first + segment_size * i)

-- a table that holds the first n segments from a place on; its other places are empty
abbrev pub segments_to : List ℤ → ℕ → ℕ → ℕ → Segments
segments_to ws first len n = record { segments = table most_segments empty_segment (segment_in_run ws first) n; len = len }

-- the table of len segments from a place on, of which it holds as many as it has places
unfoldable pub segments_run : List ℤ → ℕ → ℕ → Segments
segments_run ws first len = segments_to ws first len (min len most_segments)

-- how many segments a list without a count has
abbrev pub segments_in : List ℤ → ℕ
segments_in ws = length ws / segment_size

-- the segments that are a list without a count
unfoldable pub flat_segments : List ℤ → Segments
flat_segments ws = segments_run ws 0 (segments_in ws)

-- ---- segments as words
unfoldable pub segment_words : Segment → List ℤ
segment_words s =
    flags_word s.flags ∷ direction_word s.dir ∷ s.pos ∷ s.delta ∷ s.min_coord ∷ s.max_coord ∷ s.height ∷ s.score ∷ s.len
    ∷ link_word s.link ∷ link_word s.serif ∷ pos s.first ∷ pos s.last ∷ link_word s.edge ∷ link_word s.next ∷ []

-- a segment of a table
abbrev pub segment_words_at : Segments → ℕ → List ℤ
segment_words_at t i = segment_words (segment_at t i)

-- a list without a count with the segments of a table written over it, as many as it has room for
unfoldable pub segments_over : List ℤ → Segments → List ℤ
segments_over ws t = written ws 0 (joined (segment_words_at t) (min (segments_in ws) most_segments))
