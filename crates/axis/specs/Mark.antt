-- What gave an edge its position (request #105): the marks by their numbers, and edges without them.
use Rattle.std.specs.Prelude.{◌≡◌, Bool, false, ◌||◌, List, [], ◌∷◌, map, ℕ, eqb}
use Rattle.axis.specs.declared.kinds.Mark.{Mark}
use Rattle.axis.specs.declared.kinds.Mark.TheVariants as Marks
use Rattle.axis.specs.declared.edge.Edge.{Edge}
use Rattle.axis.specs.declared.edge.Axis.{Axis}
use Rattle.axis.specs.Edge.{placed}

-- the number of a mark, in the request's order; those of remaining edges behind them
abbrev pub mark_number : Mark → ℕ
mark_number Marks.Nothing = 0
mark_number Marks.BlueAnchor = 1
mark_number Marks.Blue = 2
mark_number Marks.Linked = 3
mark_number Marks.Anchor = 4
mark_number Marks.Stem = 5
mark_number Marks.Adjusted = 6
mark_number Marks.Bound = 7
mark_number Marks.Serif = 8
mark_number Marks.LowercaseM = 9
mark_number Marks.Between = 10
mark_number Marks.Spaced = 11
mark_number Marks.RemainingAnchor = 12

-- a mark is one of these
unfoldable pub among : List Mark → Mark → Bool
among [] m = false
among (x ∷ xs) m = eqb (mark_number x) (mark_number m) || among xs m

-- ---- without marks
-- an edge without its mark
abbrev pub unmarked : Edge → Edge
unmarked e = placed e e.pos Marks.Nothing

-- an axis without those of its edges
abbrev pub unmarked_axis : Axis → Axis
unmarked_axis axis = record { dim = axis.dim; major_dir = axis.major_dir; edges = map unmarked axis.edges; len = axis.len }

-- positions are as without marks: the outcome of a call, without its marks, is the same whatever the marks were, and whether they are erased before the call or behind it
pub record Blind {R : Type 0} (call : Axis → R) (without : R → R) : Type 0 where
  pub whatever : (a b : Axis) → unmarked_axis a ≡ unmarked_axis b → without (call a) ≡ without (call b)
  pub before : (axis : Axis) → without (call (unmarked_axis axis)) ≡ without (call axis)
