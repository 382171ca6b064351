-- Edges as words.
use Rattle.std.specs.Prelude.{List, [], ◌∷◌, ℕ, ◌+◌, ◌*◌, ◌/◌, min, length, ℤ, pos}
use Rattle.axis.specs.declared.edge.Edge.{Edge}
use Rattle.axis.specs.declared.edge.Axis.{Axis}
use Rattle.axis.specs.declared.kinds.Dimension.{Dimension}
use Rattle.axis.specs.declared.kinds.Direction.{Direction}
use Rattle.axis.specs.Edge.{empty_edge, edge_at}
use Rattle.axis.specs.Limits.{most_edges}
use Rattle.words.specs.Word.{word_at, written, joined, table}
use Rattle.words.specs.Field.{short_of, index_of, link_of, direction_of, blue_of, flags_of, mark_of, link_word, direction_word, present_word, fitted_word, flags_word, mark_word}

-- how many words an edge is
abbrev pub edge_size : ℕ
edge_size = 12

-- how many words the places of the working table are
abbrev pub table_size : ℕ
table_size = edge_size * most_edges

-- ---- places
-- of the fields among the words of an edge; a blue has two, whether it is there and its fitted position
abbrev pub fpos_place : ℕ
fpos_place = 0

abbrev pub opos_place : ℕ
opos_place = 1

abbrev pub pos_place : ℕ
pos_place = 2

abbrev pub flags_place : ℕ
flags_place = 3

abbrev pub dir_place : ℕ
dir_place = 4

abbrev pub blue_place : ℕ
blue_place = 5

abbrev pub fitted_place : ℕ
fitted_place = 6

abbrev pub link_place : ℕ
link_place = 7

abbrev pub serif_place : ℕ
serif_place = 8

abbrev pub first_place : ℕ
first_place = 9

abbrev pub last_place : ℕ
last_place = 10

abbrev pub mark_place : ℕ
mark_place = 11

-- the word of edge i in a list of edges, by its field's place
abbrev pub word_of_edge : ℕ → ℕ → ℕ
word_of_edge i place = edge_size * i + place

-- ---- words as edges
-- the edge whose words stand at a place
unfoldable pub edge_from : List ℤ → ℕ → Edge
edge_from ws at = record {
  fpos = short_of (word_at ws at);
  opos = word_at ws (at + opos_place);
  pos = word_at ws (at + pos_place);
  flags = flags_of (word_at ws (at + flags_place));
  dir = direction_of (word_at ws (at + dir_place));
  blue = blue_of (word_at ws (at + blue_place)) (word_at ws (at + fitted_place));
  link = link_of (word_at ws (at + link_place));
  serif = link_of (word_at ws (at + serif_place));
  first = index_of (word_at ws (at + first_place));
  last = index_of (word_at ws (at + last_place));
  mark = mark_of (word_at ws (at + mark_place));
}

-- an edge of those whose words stand from a place on
abbrev pub edge_in_run : List ℤ → ℕ → ℕ → Edge
edge_in_run ws first i = edge_from ws (first + edge_size * i)

-- an axis whose table holds the first n edges from a place on; its other places are empty
abbrev pub axis_to : List ℤ → ℕ → Dimension → Direction → ℕ → ℕ → Axis
axis_to ws first dim major len n = record { dim = dim; major_dir = major; edges = table most_edges empty_edge (edge_in_run ws first) n; len = len }

-- the axis of len edges from a place on, of which the table holds as many as it has places
unfoldable pub axis_run : List ℤ → ℕ → Dimension → Direction → ℕ → Axis
axis_run ws first dim major len = axis_to ws first dim major len (min len most_edges)

-- how many edges a list without a count has
abbrev pub edges_in : List ℤ → ℕ
edges_in ws = length ws / edge_size

-- the axis whose edges are a list without a count
unfoldable pub flat_axis : List ℤ → Dimension → Direction → Axis
flat_axis ws dim major = axis_run ws 0 dim major (edges_in ws)

-- ---- edges as words
unfoldable pub edge_words : Edge → List ℤ
edge_words e =
    e.fpos ∷ e.opos ∷ e.pos ∷ flags_word e.flags ∷ direction_word e.dir ∷ present_word e.blue ∷ fitted_word e.blue
    ∷ link_word e.link ∷ link_word e.serif ∷ pos e.first ∷ pos e.last ∷ mark_word e.mark ∷ []

-- an edge of an axis
abbrev pub edge_words_at : Axis → ℕ → List ℤ
edge_words_at axis i = edge_words (edge_at axis i)

-- a list without a count with the edges of an axis written over it, as many as it has room for
unfoldable pub edges_over : List ℤ → Axis → List ℤ
edges_over ws axis = written ws 0 (joined (edge_words_at axis) (min (edges_in ws) most_edges))
