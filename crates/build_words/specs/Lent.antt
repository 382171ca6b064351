-- Edge building over lent segments, room for a table of edges, the dimension, the major direction, the group, whether the retired order is asked for, the scale
-- and the three thresholds; a place is lent for the count of edges.
use Rattle.std.specs.Prelude.{◌&&◌, List, ℕ, eqb, length, ℤ, pos}
use Rattle.axis.specs.declared.edge.Axis.{Axis}
use Rattle.axis.specs.Edge.{empty_axis}
use Rattle.build.specs.Answer.{Built}
use Rattle.build.specs.declared.numbers.Thresholds.{Thresholds}
use Rattle.build.specs.Building.{compute_edges}
use Rattle.words.specs.Word.{written, joined}
use Rattle.words.specs.Field.{choice_of, dimension_of, direction_of, group_of}
use Rattle.words.specs.Edge.{table_size, edge_words_at}
use Rattle.words.specs.Segment.{flat_segments, segments_over}
use Rattle.words_shape.specs.Shape.{is_in, direction}
use Rattle.refusals.specs.Refusal.{Test}
use Rattle.words_call.specs.Lent.{Lent, segments_front, choices}

-- the tests in front: the room for the edges has the table's length; what it holds is not read
abbrev pub build_front : List ℤ → List ℤ → ℤ → ℤ → ℤ → ℤ → List Test
build_front ws room dim major group ttb = segments_front ws (eqb (length room) table_size) (is_in direction major && choices dim group ttb)

-- the three thresholds: edge distance, segment length, segment width
abbrev pub thresholds_of : ℤ → ℤ → ℤ → Thresholds
thresholds_of distance len width = record { distance = distance; length = len; width = width }

-- what the call hands back, from a table without edges
abbrev pub built : List ℤ → ℤ → ℤ → ℤ → ℤ → ℤ → Thresholds → Built
built ws dim major group ttb scale t = compute_edges (flat_segments ws) (empty_axis (dimension_of dim) (direction_of major)) (group_of group) (choice_of ttb) scale t

-- the edges in the front of the room for them; what stands behind them stays
abbrev pub edges_into : List ℤ → Axis → List ℤ
edges_into room axis = written room 0 (joined (edge_words_at axis) axis.len)

-- the segments, the edges, and how many there are
abbrev pub built_lists : List ℤ → List ℤ → Built → List ℤ × (List ℤ × ℤ)
built_lists ws room b = (segments_over ws b.segments, (edges_into room b.axis, pos b.axis.len))

abbrev pub BuiltLent : List ℤ → List ℤ → ℤ → ℤ → ℤ → ℤ → ℤ → Thresholds → ℤ → ℕ → List ℤ × (List ℤ × ℤ) → Type 0
BuiltLent ws room dim major group ttb scale t count =
    Lent (build_front ws room dim major group ttb) (built ws dim major group ttb scale t).answer (built_lists ws room (built ws dim major group ttb scale t))
    (ws, (room, count))
