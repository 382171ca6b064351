-- What a call leaves of lent records: as many words, those of whole records, every one within its field's values, and read as the table that is handed back.
use Rattle.std.specs.Prelude.{◌≡◌, true, List, ℕ, ◌*◌, ◌<◌, length, take, ℤ}
use Rattle.axis.specs.declared.edge.Axis.{Axis}
use Rattle.axis.specs.declared.segment.Segments.{Segments}
use Rattle.axis.specs.Edge.{edge_at}
use Rattle.axis.specs.Segment.{segment_at}
use Rattle.words.specs.Word.{word_at}
use Rattle.words.specs.Field.{flags_of}
use Rattle.words.specs.Edge.{edge_size, flags_place, word_of_edge, flat_axis}
use Rattle.words.specs.Segment.{flat_segments}
use Rattle.words_shape.specs.Shape.{edges_shown, segments_shown}
use Rattle.words_call.specs.Lent.{edges_of}

-- of a list of edges
pub record EdgesLeft (before now : List ℤ) (axis : Axis) : Type 0 where
  pub size : length now ≡ length before
  pub shown : edges_shown now ≡ true
  pub read : flat_axis now axis.dim axis.major_dir ≡ axis

-- of a list of segments
pub record SegmentsLeft (before now : List ℤ) (table : Segments) : Type 0 where
  pub size : length now ≡ length before
  pub shown : segments_shown now ≡ true
  pub count : (flat_segments now).len ≡ table.len
  pub read : (i : ℕ) → i < table.len → segment_at (flat_segments now) i ≡ segment_at table i

-- of a room for edges: so it is of the words of those that were built, in its front
pub record RoomLeft (before now : List ℤ) (axis : Axis) : Type 0 where
  pub size : length now ≡ length before
  pub shown : edges_shown (take (edge_size * axis.len) now) ≡ true
  pub count : (edges_of (take (edge_size * axis.len) now)).len ≡ axis.len
  pub read : (i : ℕ) → i < axis.len → edge_at (edges_of (take (edge_size * axis.len) now)) i ≡ edge_at axis i

-- edge i of a list is done, by the word of its flags
abbrev pub EdgeDone : List ℤ → ℕ → Type 0
EdgeDone ws i = (flags_of (word_at ws (word_of_edge i flags_place))).done ≡ true
