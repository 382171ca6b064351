-- Words that are those of segments and edges, and that every call accepts which is given both.
use Rattle.std.specs.Prelude.{◌≡◌, true, List, ℕ, ℤ, pos, ◌-ℤ◌}
use Rattle.turn.specs.Indices.{segments_edges, edges_segments}
use Rattle.words.specs.Segment.{flat_segments}
use Rattle.words_call.specs.Lent.{edges_of}
use Rattle.words_shape.specs.declared.field.Range.{Range}
use Rattle.words_shape.specs.Shape as Shape
use Rattle.words_edge_test.specs.Held as Edges
use Rattle.words_segment_test.specs.Held as Segments

-- the values of an index of one of n
abbrev pub indices_to : ℕ → Range
indices_to n = Shape.range (pos 0) (pos n -ℤ pos 1)

pub record Held (ws es : List ℤ) : Type 0 where
  pub segments : Segments.Held ws true
  pub edges : Edges.Held es
  pub to_edges : segments_edges (edges_of es).len (flat_segments ws) ≡ true
  pub to_segments : edges_segments (flat_segments ws).len (edges_of es) ≡ true
